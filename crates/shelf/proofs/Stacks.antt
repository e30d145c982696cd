-- The versions of one chain, read and put.
use Rattle.std.proofs.Common.{◌≡◌, ℕ, zero, suc, ◌+◌, ◌-◌, ◌<◌, ◌≤◌, ◌≢◌, List, ◌∷◌, length, Some, None, slice_index_or, slice_set, refl, ◌∙◌, ap, arith, add-one, get_or-set_same, get_or-set_other}
use Rattle.store.specs.declared.Version.{Version}
use Rattle.store.specs.Model.{nth_of, first_version}
use Rattle.shelf.specs.Slots.{newest_first}

abbrev pair_of : Version → ℕ × ℕ
pair_of v = (v.value, v.writer)

pub nth_stored : (ps : List Version) (n s : ℕ) → s < n → nth_of (newest_first ps n) s ≡ Some (pair_of (slice_index_or ps (n - 1 - s) first_version))
nth_stored ps zero s h = absurd (omega arith)
nth_stored ps (suc n) zero h = ap (λ i. Some (pair_of (slice_index_or ps i first_version))) (omega arith)
nth_stored ps (suc n) (suc s) h =
    nth_stored ps n s (omega arith) ∙ ap (λ i. Some (pair_of (slice_index_or ps i first_version))) (omega arith)

pub nth_first : (ps : List Version) (n : ℕ) → nth_of (newest_first ps n) n ≡ Some (0, 0)
nth_first ps zero = refl
nth_first ps (suc n) = nth_first ps n

pub nth_past : (ps : List Version) (n s : ℕ) → n < s → nth_of (newest_first ps n) s ≡ None
nth_past ps n zero h = absurd (omega arith)
nth_past ps zero (suc s) h = refl
nth_past ps (suc n) (suc s) h = nth_past ps n s (omega arith)

-- A write past the stored versions leaves them.
stack_set : (ps : List Version) (i : ℕ) (v : Version) (n : ℕ) → n ≤ i → newest_first (slice_set ps i v) n ≡ newest_first ps n
stack_set ps i v zero h = refl
stack_set ps i v (suc n) h =
    let ne : n ≢ i = omega arith in
    let one = get_or-set_other ps i n v first_version ne in
    let rest = stack_set ps i v n (omega arith) in
    cc

pub stack_put : (ps : List Version) (i : ℕ) (v : Version) → i < length ps → newest_first (slice_set ps i v) (i + 1) ≡ v ∷ newest_first ps i
stack_put ps i v h =
    let one = get_or-set_same ps i v first_version h in
    let rest = stack_set ps i v i (omega arith) in
    rw add-one (cc)
