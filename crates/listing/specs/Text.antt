use Rattle.std.specs.Prelude.{ℕ, List, ◌++◌, codes, decimal}
use Rattle.std.specs.List.{flat_map}
use Rattle.calls.specs.Text.{text}
use Rattle.listing.specs.declared.line.Line.{Line}

-- The bytes of a line: the place, a space, the answer, and the end of the line.
abbrev pub line : Line → List ℕ
line l = decimal l.place ++ (codes " " ++ (text l.answer ++ codes "\n"))

-- The bytes of a listing: its lines one after another.
abbrev pub lines : List Line → List ℕ
lines ls = flat_map line ls
