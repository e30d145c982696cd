-- The parts of a roll: what a read or a write of one means for the whole, for the two totals and for the free places.
use Rattle.std.specs.Prelude.{◌≡◌, ℕ, zero, suc, ◌+◌, ◌-◌, ◌*◌, ◌^◌, ◌<◌, ◌≤◌, cond, List, [], ◌∷◌, ◌++◌, length, get_or, replicate, Some, None, slice_index, slice_index_or, slice_set, refl}
use Rattle.std.proofs.Math.Path.{sym, ap}
use Rattle.std.proofs.Common.{◌∙◌}
use native.Mathlib.Omega.{arith}
use Rattle.std.proofs.lemmas.List.{get_or-map, map-set, length-map}
use Rattle.std.proofs.Math.Seq.{map-set_same}
use Rattle.std.proofs.lemmas.Bool.{cond-true}
use Rattle.std.proofs.lemmas.Bool.Decides.{nat_tests}
use Rattle.store.specs.Model.{Chain, Meaning, fresh, first_chain, in_range, with_chain, stored, set_aside}
use Rattle.store.specs.Index.{index_of}
use Rattle.store.proofs.Listed.{placed, placed_in}
use Rattle.roll.specs.Totals.{total_of, room}
use Rattle.roll.specs.Entries.{entered}
use Rattle.roll.specs.Links.{asides_of}
use Rattle.roll.specs.Table.{roll_meaning}
use Rattle.roll.specs.declared.table.Roll.{Roll}
use Rattle.roll.specs.declared.entry.Entry.{Entry}
use Rattle.roll.specs.declared.head.ChainHead.{ChainHead}
use Rattle.roll.specs.Entering.{chain, aside_written, entry_pushed, entered_fresh, versions_length}
use Rattle.roll.specs.Sums.{total_with, one_within, total_fresh}

-- The free places are what the two totals leave.
pub room_of : (m : Meaning) (a b : ℕ) → total_of stored m ≡ a → total_of set_aside m ≡ b → room 512 m ≡ 512 - a - b
unfolding room
room_of m a b p q = omega arith

pub room_is : (r : Roll) → room 512 (roll_meaning r) ≡ 512 - r.entries.len - r.total
room_is r = room_of (roll_meaning r) r.entries.len r.total r.counted r.summed

-- Where a chain has as many places set aside as before, they all are as they were.
pub asides_kept : (cs : List ChainHead) (i : ℕ) (x y : ChainHead) → x ≡ slice_index_or cs i x → y.aside ≡ x.aside → asides_of (slice_set cs i y) ≡ asides_of cs
asides_kept cs i x y raw same = map-set_same (λ (c : ChainHead). c.aside) cs i y x (same ∙ ap (λ (c : ChainHead). c.aside) raw)

-- One chain of a roll, at its index.
module _ (r : Roll) (node key i : ℕ) (x : ChainHead) (at : index_of node key ≡ Some i) (raw : x ≡ slice_index_or r.chains.items i x) where
  long : length r.chains.items ≡ 512
  long = sym r.chains.ok.0 ∙ r.whole

  here : (roll_meaning r node key).aside ≡ x.aside
  unfolding entered
  here =
      let p = placed node key i at in
      let inside = placed_in node key i at in
      let below : i < length r.chains.items = omega (arith, long) in
      let read : get_or (asides_of r.chains.items) (node * 64 + key) 0 ≡ x.aside =
      ap (λ j. slice_index (asides_of r.chains.items) j) (sym p.2) ∙ get_or-map (λ (c : ChainHead). c.aside) r.chains.items i x 0 below ∙ ap (λ (c : ChainHead). c.aside) (sym raw) in
      grind (arith, nat_tests)

  -- The running total covers the places set aside here.
  pub covered : ((roll_meaning r node key).aside ≡ x.aside) × (x.aside ≤ r.total)
  covered =
      let p = placed node key i at in
      let one = one_within set_aside (roll_meaning r) node key p.0 p.1 in
      let is = here in
      let sum = r.summed in
      (here, omega arith)

  pub aside_read : Some x.aside ≡ cond (in_range node key) (Some (roll_meaning r node key).aside) None
  aside_read = sym (cond-true (in_range node key) (Some (roll_meaning r node key).aside) None (placed_in node key i at) ∙ ap Some here)

  -- Another head of the chain.
  module _ (y : ChainHead) where
    pub written : entered r.entries.items (asides_of (slice_set r.chains.items i y)) ≡ with_chain (roll_meaning r) node key (chain (roll_meaning r node key).versions y.aside)
    unfolding entered
    written =
        let p = placed node key i at in
        ap (entered r.entries.items) (map-set (λ (c : ChainHead). c.aside) r.chains.items i y)
        ∙ ap (λ j. entered r.entries.items (slice_set (asides_of r.chains.items) j y.aside)) p.2
        ∙ aside_written r.entries.items (asides_of r.chains.items) node key y.aside p.0 p.1 (length-map r.chains.items (λ (c : ChainHead). c.aside) ∙ long)

    pub written_aside : total_of set_aside (entered r.entries.items (asides_of (slice_set r.chains.items i y))) + x.aside ≡ r.total + y.aside
    written_aside =
        let p = placed node key i at in
        let sums = total_with set_aside (roll_meaning r) node key (chain (roll_meaning r node key).versions y.aside) p.0 p.1 in
        let goes = ap (total_of set_aside) written in
        let is = here in
        let sum = r.summed in
        omega arith

    pub written_stored : total_of stored (entered r.entries.items (asides_of (slice_set r.chains.items i y))) ≡ r.entries.len
    written_stored =
        let p = placed node key i at in
        let sums = total_with stored (roll_meaning r) node key (chain (roll_meaning r node key).versions y.aside) p.0 p.1 in
        let goes = ap (total_of stored) written in
        let count = r.counted in
        omega arith

    pub written_room : y.aside ≤ (roll_meaning r node key).aside + room 512 (roll_meaning r) → room 512 (entered r.entries.items (asides_of (slice_set r.chains.items i y))) + y.aside ≡ room 512 (roll_meaning r) + (roll_meaning r node key).aside
    written_room allowed =
        let sum = written_aside in
        let after = room_of (entered r.entries.items (asides_of (slice_set r.chains.items i y))) r.entries.len (r.total + y.aside - x.aside) written_stored (omega arith) in
        let before = room_is r in
        let few = r.fits in
        let is = covered in
        omega arith

-- One entry more.
module _ (r : Roll) (e : Entry) (hn : e.node < 8) (hk : e.key < 64) (es : List Entry) (pushed : es ≡ r.entries.items ++ e ∷ []) (ps : List ℕ) (kept : ps ≡ asides_of r.chains.items) where
  pub pushed_is : entered es ps ≡ with_chain (roll_meaning r) e.node e.key (chain (e.version ∷ (roll_meaning r e.node e.key).versions) (roll_meaning r e.node e.key).aside)
  unfolding entered
  pushed_is = ap (λ l. entered l ps) pushed ∙ ap (entered (r.entries.items ++ e ∷ [])) kept ∙ entry_pushed r.entries.items (asides_of r.chains.items) e

  pub pushed_aside : total_of set_aside (entered es ps) ≡ r.total
  pushed_aside =
      let sums = total_with set_aside (roll_meaning r) e.node e.key (chain (e.version ∷ (roll_meaning r e.node e.key).versions) (roll_meaning r e.node e.key).aside) hn hk in
      let goes = ap (total_of set_aside) pushed_is in
      let sum = r.summed in
      omega arith

  pub pushed_stored : total_of stored (entered es ps) ≡ r.entries.len + 1
  unfolding entered
  pushed_stored =
      let sums = total_with stored (roll_meaning r) e.node e.key (chain (e.version ∷ (roll_meaning r e.node e.key).versions) (roll_meaning r e.node e.key).aside) hn hk in
      let goes = ap (total_of stored) pushed_is in
      let some = versions_length e.node e.key r.entries.items in
      let count = r.counted in
      omega arith

  pub pushed_room : 0 < room 512 (roll_meaning r) → room 512 (entered es ps) + 1 ≡ room 512 (roll_meaning r)
  pushed_room free =
      let before = room_is r in
      let after = room_of (entered es ps) (r.entries.len + 1) r.total pushed_stored pushed_aside in
      omega arith

asides_replicate : (n : ℕ) (c : ChainHead) → asides_of (replicate n c) ≡ replicate n c.aside
asides_replicate zero c = refl
asides_replicate (suc n) c = ap (λ ps. c.aside ∷ ps) (asides_replicate n c)

pub made_fresh : (es : List Entry) (cs : List ChainHead) → es ≡ [] → (c : ChainHead) → cs ≡ replicate 512 c → c.aside ≡ 0 → entered es (asides_of cs) ≡ fresh
made_fresh es cs none c all unused =
    ap (λ l. entered l (asides_of cs)) none
    ∙ ap (λ l. entered [] (asides_of l)) all
    ∙ ap (entered []) (asides_replicate 512 c ∙ ap (replicate 512) unused)
    ∙ entered_fresh

pub made_total : (f : Chain → ℕ) → f first_chain ≡ 0 → (m : Meaning) → m ≡ fresh → total_of f m ≡ 0
made_total f z m e = ap (total_of f) e ∙ total_fresh f z

pub chains_short : (r : Roll) (n k : ℕ) → length (roll_meaning r n k).versions < 2 ^ 32
unfolding entered
chains_short r n k =
    let few = r.fits in
    let long = r.entries.ok.0 in
    omega (arith, versions_length n k r.entries.items)
