-- what is done above stacks, as the code stores it
use Rattle.lrexchange.specs.declared.acts.Act as stored
use Rattle.lrexchange.specs.declared.acts.Act.TheVariants as code
use Rattle.lrexchange.specs.Asked.{Act, They, Both, We, Hide}
use Rattle.lrexchange.specs.StoredPositions.{mark_of, turn_of}

-- what is done, by the numbers of productions and dots
abbrev pub act_of : stored.Act → Act
act_of (code.They turn p d) = They (turn_of turn) p.0 d.0
act_of (code.Both p d) = Both p.0 d.0
act_of (code.We p) = We p.0
act_of (code.Hide p m) = Hide p.0 (mark_of m)
