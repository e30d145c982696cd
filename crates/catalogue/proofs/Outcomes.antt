-- The outcome of a vote, from its parts. What a vote looks at in the tables does not depend on what the store holds.
use Rattle.std.proofs.Common.{◌≡◌, ℕ, ◌-◌, Bool, true, false, List, set, None, Ok, Err, refl, ap, ◌∙◌}
use Rattle.calls.specs.declared.answer.Answer.TheVariants.{Yes, NoPlace}
use Rattle.store.specs.Model.{FreeRule, Meaning, fresh}
use Rattle.store.specs.Batch.{all_aside, first_refused}
use Rattle.rules.specs.declared.records.Node.{Node}
use Rattle.rules.specs.declared.records.Transaction.{Transaction}
use Rattle.rules.specs.World.{World, Outcome, with_store, written_at, is_write_node}
use Rattle.rules.specs.Changes.{has_no}
use Rattle.rules.specs.Voting.{overtaken_key, yes, vote_by_places, vote}
use Rattle.catalogue.specs.declared.table.Table.{Table}
use Rattle.catalogue.specs.Tables.{world_of}

written_any : (table : Table) (m : Meaning) (x : Transaction) (p : ℕ) → written_at (world_of table fresh) x p ≡ written_at (world_of table m) x p
unfolding written_at
written_any table m x p = refl

write_node_any : (table : Table) (m : Meaning) (x : Transaction) (p : ℕ) → is_write_node (world_of table fresh) x p ≡ is_write_node (world_of table m) x p
unfolding is_write_node
write_node_any table m x p = refl

-- ── A yes over any store ──

abbrev stored : Meaning → Outcome → Outcome
stored m o = (o.0, with_store o.1 m)

yes_stored : (table : Table) (m after : Meaning) (t p : ℕ) (x : Transaction) (writes : Bool) → stored after (yes (world_of table fresh) t p x fresh writes) ≡ yes (world_of table m) t p x after writes
yes_stored table m after t p x true = refl
yes_stored table m after t p x false = refl

pub yes_any : (table voted : Table) (m after : Meaning) (t p number : ℕ) (x : Transaction) → (Yes number, world_of voted fresh) ≡ yes (world_of table fresh) t p x fresh (is_write_node (world_of table fresh) x p) → (Yes number, world_of voted after) ≡ yes (world_of table m) t p x after (is_write_node (world_of table m) x p)
yes_any table voted m after t p number x is =
    ap (stored after) is ∙ yes_stored table m after t p x (is_write_node (world_of table fresh) x p) ∙ ap (yes (world_of table m) t p x after) (write_node_any table m x p)

-- ── The vote ──

same_world : (n n2 : List Node) (x x2 : List Transaction) (k k2 : List ℕ) (m m2 : Meaning) → n ≡ n2 → x ≡ x2 → k ≡ k2 → m ≡ m2 → ◌≡◌ {A = World} (record { nodes = n; transactions = x; placement = k; store = m }) (record { nodes = n2; transactions = x2; placement = k2; store = m2 })
same_world n n2 x x2 k k2 m m2 p q r s = cc

module _ (free : FreeRule) (table after : Table) (m store : Meaning) (t p : ℕ) (x : Transaction) (none : None ≡ overtaken_key (world_of table m) x p) where
  abbrev before : World
  before = world_of table m

  -- Places are set aside for all keys.
  pub voted_yes : (done : Unit {0}) (number : ℕ) → Ok done ≡ first_refused free m p (written_at (world_of table fresh) x p) → store ≡ all_aside m p (written_at (world_of table fresh) x p) → (Yes number, world_of after fresh) ≡ yes (world_of table fresh) t p x fresh (is_write_node (world_of table fresh) x p) → (Yes number, world_of after store) ≡ vote free before t p x (overtaken_key before x p)
  voted_yes done number granted Store_is is =
      yes_any table after m store t p number x is
      ∙ ap (λ (s : Meaning). yes before t p x s (is_write_node before x p)) (Store_is ∙ ap (all_aside m p) (written_any table m x p))
      ∙ ap (vote_by_places before t p x) (granted ∙ ap (first_refused free m p) (written_any table m x p))
      ∙ ap (vote free before t p x) none

  -- There is no place for a key.
  pub voted_no_place : (key : ℕ) → Err key ≡ first_refused free m p (written_at (world_of table fresh) x p) → store ≡ m → after.transactions.items ≡ set table.transactions.items (t - 1) (has_no p x) → after.nodes.items ≡ table.nodes.items → after.placement.items ≡ table.placement.items → (NoPlace key, world_of after store) ≡ vote free before t p x (overtaken_key before x p)
  voted_no_place key refused Store_is transactions nodes placement =
      ap (λ (w : World). (NoPlace key, w))
      (same_world after.nodes.items table.nodes.items after.transactions.items (set table.transactions.items (t - 1) (has_no p x)) after.placement.items table.placement.items store m nodes transactions placement Store_is)
      ∙ ap (vote_by_places before t p x) (refused ∙ ap (first_refused free m p) (written_any table m x p))
      ∙ ap (vote free before t p x) none
