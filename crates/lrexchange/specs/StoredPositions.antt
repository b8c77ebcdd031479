-- positions, as the code stores them
use Rattle.std.specs.Prelude.{ℕ, List, map}
use Rattle.std.specs.Option.{option_map}
use Rattle.lrspec.specs.grammars.Grammar as math
use Rattle.lrgrammar.specs.declared.idx.Symbol.{Symbol}
use Rattle.lrgrammar.specs.Symbols.{symbol_of, number_of}
use Rattle.lrexchange.specs.declared.below.Below as step
use Rattle.lrexchange.specs.declared.positions.Mark as mark
use Rattle.lrexchange.specs.declared.positions.Ours as own
use Rattle.lrexchange.specs.declared.positions.Turn as stored
use Rattle.lrexchange.specs.declared.positions.Turn.TheVariants as code
use Rattle.lrexchange.specs.declared.positions.Position as kept
use Rattle.lrexchange.specs.Positions.{Mark, Ours, Turn, Even, Open, Ahead, Before, Behind, Position}

-- symbols by their numbers
abbrev pub symbols_of : List (Symbol ℕ) → List math.Symbol
symbols_of xs = map (symbol_of number_of) xs

-- a mark by the numbers of its symbols and its state
abbrev pub mark_of : mark.Mark → Mark
mark_of m = record {
  place = m.place;
  symbol = symbol_of number_of m.symbol;
  under = symbol_of number_of m.under;
  state = m.state.0;
}

-- ours by the numbers of symbols
abbrev pub ours_of : own.Ours → Ours
ours_of y = record {
  symbols = symbols_of y.symbols.items;
  mark = option_map mark_of y.mark;
}

-- what they do next, by the number of the item
abbrev pub turn_of : stored.Turn → Turn
turn_of code.Even = Even
turn_of (code.Open p d) = Open p.0 d.0
turn_of (code.Ahead t) = Ahead t.0
turn_of (code.Before t) = Before t.0
turn_of (code.Behind t) = Behind t.0

-- a position by numbers
abbrev pub position_of : kept.Position → Position
position_of a = record {
  turn = turn_of a.turn;
  state = a.state.0;
  theirs = symbols_of a.theirs.items;
  ours = ours_of a.ours;
}

-- positions by numbers
abbrev pub positions_of : List kept.Position → List Position
positions_of ps = map position_of ps

-- states with what is above them, by numbers
abbrev pub belows_of : List step.Below → List (ℕ × List math.Symbol)
belows_of bs = map (λ b. (b.state.0, symbols_of b.symbols.items)) bs
