-- Counting the keys of a row.
use Rattle.std.proofs.Common.{◌≡◌, List, [], ◌∷◌, is_some, filter, length, Some, None, Option, suc, refl, ap}
use Rattle.rules.specs.World.{how_many}

pub how_many_there : {X : Type 0} (row : List (Option X)) → length (filter is_some row) ≡ how_many row
how_many_there [] = refl
how_many_there (None ∷ row) = how_many_there row
how_many_there (Some x ∷ row) = ap suc (how_many_there row)
