-- One chain of the shelf: what a read of it and a write to it mean for the whole.
use Rattle.std.proofs.Common.{◌≡◌, ℕ, zero, suc, ◌<◌, cond, List, ◌∷◌, map, length, replicate, Some, None, slice_index_or, slice_set, sym, refl, ap, ◌∙◌, arith}
use Rattle.std.proofs.lemmas.List.{get_or-map, map-set, length-map}
use Rattle.std.proofs.lemmas.Bool.{cond-true}
use Rattle.store.specs.Model.{in_range, with_chain, first_chain, fresh}
use Rattle.store.specs.Index.{listed, index_of}
use Rattle.store.proofs.Listed.{placed, placed_in, listed_fresh, read_is, write_is}
use Rattle.shelf.specs.Slots.{chain_of}
use Rattle.shelf.specs.declared.slots.Slots.{Slots}

module _ (xs : List Slots) (node key i : ℕ) (at : index_of node key ≡ Some i) (long : length xs ≡ 512) where
  wide : length (map chain_of xs) ≡ 512
  wide = length-map xs chain_of ∙ long

  pub slots_read : (x : Slots) → x ≡ slice_index_or xs i x → Some (chain_of x) ≡ cond (in_range node key) (Some (listed (map chain_of xs) node key)) None
  slots_read x read =
      let p = placed node key i at in
      let below : i < length xs = omega arith in
      let here = get_or-map chain_of xs i x first_chain below ∙ ap chain_of (sym read) in
      sym (cond-true (in_range node key) (Some (listed (map chain_of xs) node key)) None (placed_in node key i at) ∙ ap Some (read_is (map chain_of xs) node key i (chain_of x) at wide here))

  pub slots_written : (y : Slots) → listed (map chain_of (slice_set xs i y)) ≡ cond (in_range node key) (with_chain (listed (map chain_of xs)) node key (chain_of y)) (listed (map chain_of xs))
  slots_written y = ap listed (map-set chain_of xs i y) ∙ write_is (map chain_of xs) node key i at wide (chain_of y)

map-replicate : (n : ℕ) (x : Slots) → map chain_of (replicate n x) ≡ replicate n (chain_of x)
map-replicate zero x = refl
map-replicate (suc n) x = ap (λ r. chain_of x ∷ r) (map-replicate n x)

pub made_fresh : (xs : List Slots) (x : Slots) → xs ≡ replicate 512 x → chain_of x ≡ first_chain → listed (map chain_of xs) ≡ fresh
made_fresh xs x all first =
    ap (λ l. listed (map chain_of l)) all ∙ ap listed (map-replicate 512 x) ∙ ap (λ h. listed (replicate 512 h)) first ∙ listed_fresh
