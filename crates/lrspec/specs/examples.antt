-- small grammars, on which the proofs have examples
pub mod ExampleGrammars
