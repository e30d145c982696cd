-- What the catalogue promises of any calls that follow an accepted make: statements on the calls and their answers, on chains, clocks and
-- stamps of the world after them, and on one table. Transcripts, scripts, orders and chains stand with the newest first.
use Rattle.std.specs.Prelude.{◌≡◌, ℕ, ◌<◌, ◌≤◌, Bool, true, false, ◌&&◌, ◌⊎◌, List, [], ◌∷◌, ◌++◌, map, length}
use mathlib.Core.List.{Perm}
use Rattle.calls.specs.declared.answer.Answer.{Answer}
use Rattle.calls.specs.declared.answer.Answer.TheVariants.{Done, Begun, Found, Refused}
use Rattle.calls.specs.declared.refusal.Refusal.{Refusal}
use Rattle.calls.specs.declared.refusal.Refusal.TheVariants.{NotYet}
use Rattle.calls.specs.Requests.{Request, begin, read, finish}
use Rattle.clock.specs.Clocks.{slot, marked}
use Rattle.history.specs.Table.{Version, version, first_version, Table, first_table, Operation, get, put, after, puts, scripts_conflict, play_all, AllAnswered, Member, listed, Later, selected, newest}
use Rattle.store.specs.Model.{FreeRule, aside_there}
use Rattle.rules.specs.World.{World, is_begun, holds, node, transaction, wrote}
use Rattle.rules.specs.Steps.{can_make, made_world, step, world_after}
use Rattle.rules.specs.Transcript.{Transcript, transcript, script, answers_got, decisions, applied_at}

-- ── One table ──

-- What a transaction writes stays on the table if it is committed: if decide answered commit.
abbrev pub stays : Transcript → ℕ → Bool
stays calls u = listed u (decisions calls)

-- All transactions of an order, run singly on one table, get every answer that they got.
abbrev pub OrderAnswered : Transcript → List ℕ → Type 0
OrderAnswered calls order = AllAnswered (script calls) (stays calls) (answers_got calls) order first_table

-- The table that an order of transactions leaves.
abbrev pub table_after : Transcript → List ℕ → Table
table_after calls order = play_all (script calls) (stays calls) order first_table

-- There is an order of the committed updates, and in it a place for t, behind the earlier and before the later ones. Run so on one table
-- all of them and t get their answers, and the table ends as it does in the order of decision.
pub record HasAPlace (calls : Transcript) (t : ℕ) : Type 0 where
  pub earlier : List ℕ
  pub later : List ℕ
  pub reordered : Perm (later ++ earlier) (decisions calls)
  pub answered : OrderAnswered calls (later ++ (t ∷ earlier))
  pub same_table : table_after calls (later ++ (t ∷ earlier)) ≡ table_after calls (decisions calls)

-- ── Chains ──

-- A holder's chain of a key, as values and writers.
abbrev pub chain_of : World → ℕ → ℕ → List Version
chain_of w p k = map (λ v. version v.value v.writer) (w.store p k).versions

-- The versions of k that the writers among an order's members left: what each of them wrote last to k, with its number.
abbrev pub writers : Transcript → ℕ → List ℕ → List Version
writers calls k order = selected (λ u. puts (script calls u) k) (λ u. after u (script calls u) first_table k) order

-- After its first version the chain lists that key's committed writers in the order of decision, all of them or all but the last.
abbrev pub ListsWriters : Transcript → World → ℕ → ℕ → Type 0
ListsWriters calls w p k =
    (chain_of w p k ≡ writers calls k (decisions calls) ++ first_version ∷ [])
    ⊎ ((last : Version) × (older : List Version) × (writers calls k (decisions calls) ≡ last ∷ older) × (chain_of w p k ≡ older ++ first_version ∷ []))

-- A key's newest version applied at a node: that of the last update, among those that apply answered there, that writes the key, else the
-- first version.
abbrev pub newest_applied : Transcript → ℕ → ℕ → Version
newest_applied calls p k = newest (writers calls k (applied_at calls p))

-- ── Reads ──

-- A call got this answer.
abbrev pub Answered : Request → Answer → Transcript → Type 0
Answered request answer [] = ⊥
Answered request answer (x ∷ earlier) = ((x.0 ≡ request) × (x.1 ≡ answer)) ⊎ Answered request answer earlier

-- A Search: a begin of mode 0 answered its number. It is open until a finish of it is accepted.
abbrev pub IsSearch : Transcript → ℕ → Type 0
IsSearch calls t = Answered (begin 0) (Begun t) calls

abbrev pub IsOpenSearch : Transcript → ℕ → Type 0
IsOpenSearch calls t = IsSearch calls t × (Answered (finish t) Done calls → ⊥)

-- What a read would answer now.
abbrev pub read_answer : FreeRule → World → ℕ → ℕ → ℕ → Answer
read_answer free w t k p = (step free w (read t k p)).0

-- Node p has yet to apply a committed update that writes there, stamped no higher than t's slot for p.
pub record YetToApply (calls : Transcript) (w : World) (t p : ℕ) : Type 0 where
  pub update : ℕ
  pub committed : Member update (decisions calls)
  pub writes_there : (k : ℕ) × (puts (script calls update) k ≡ true) × (holds w p k ≡ true)
  pub unapplied : Member update (applied_at calls p) → ⊥
  pub not_above : (transaction w update).stamp ≤ slot (transaction w t).clock p

-- Every accepted read of a script was of a key that the script had written before.
abbrev pub reads_own_only : List Operation → Bool
reads_own_only [] = true
reads_own_only (get k ∷ script) = puts script k && reads_own_only script
reads_own_only (put k v ∷ script) = reads_own_only script

-- ── Numbers ──

-- No number of the world exceeds b.
pub record NumbersWithin (b : ℕ) (w : World) : Type 0 where
  pub counters : (p : ℕ) → (node w p).counter ≤ b
  pub frontiers : (p : ℕ) → (node w p).frontier ≤ b
  pub seen_clocks : (p q : ℕ) → slot (node w p).seen q ≤ b
  pub stamps : (t : ℕ) → is_begun w t ≡ true → (transaction w t).stamp ≤ b
  pub numbers : (t p : ℕ) → is_begun w t ≡ true → slot (transaction w t).numbers p ≤ b
  pub clocks : (t q : ℕ) → is_begun w t ≡ true → slot (transaction w t).clock q ≤ b
  pub vote_clocks : (t q : ℕ) → is_begun w t ≡ true → slot (transaction w t).votes q ≤ b
  pub commit_clocks : (t q : ℕ) → is_begun w t ≡ true → slot (transaction w t).commit q ≤ b

-- ── The promises ──

-- An update writes a key.
abbrev pub WritesSome : Transcript → ℕ → Type 0
WritesSome calls u = (k : ℕ) × (puts (script calls u) k ≡ true)

-- Of the calls so far and the world after them.
pub record Promises (free : FreeRule) (calls : Transcript) (w : World) : Type 0 where
  -- The committed updates, each of which is decided once, run singly on one table in the order of decision, get every answer that they got.
  pub decided_once : (u : ℕ) → Later u u (decisions calls) → ⊥
  pub decided_answered : OrderAnswered calls (decisions calls)
  -- After its first version a holder's chain of a key lists that key's committed writers in this order, lacking at most the last.
  pub chains_list_writers : (p k : ℕ) → holds w p k ≡ true → ListsWriters calls w p k
  -- For each Search, which is never committed, and for each update that is not committed, the committed updates have an order with a place
  -- for it: run so on one table all get their answers again, and the table ends as in the order of decision.
  pub searches_uncommitted : (t : ℕ) → IsSearch calls t → Member t (decisions calls) → ⊥
  pub uncommitted_has_a_place : (t : ℕ) → (Member t (decisions calls) → ⊥) → HasAPlace calls t
  -- An open Search's read of a key at a holder is refused exactly when that node has yet to apply a committed update that writes there,
  -- stamped no higher than the Search's slot for the node; and then it is refused as not yet.
  pub refused_if_behind : (t k p : ℕ) → IsOpenSearch calls t → holds w p k ≡ true → YetToApply calls w t p → read_answer free w t k p ≡ Refused NotYet
  pub refused_only_if_behind : (t k p : ℕ) → IsOpenSearch calls t → holds w p k ≡ true → (r : Refusal) → read_answer free w t k p ≡ Refused r → YetToApply calls w t p
  -- A transaction's first accepted read, its own writes aside, gets the newest version applied at that node.
  pub first_read_current :
      (t k p value writer : ℕ) → reads_own_only (script calls t) ≡ true → puts (script calls t) k ≡ false →
      read_answer free w t k p ≡ Found value writer → version value writer ≡ newest_applied calls p k
  -- Of two conflicting committed updates that both wrote, the one decided first has the lower stamp.
  pub stamps_follow_decisions :
      (t u k : ℕ) → Later t u (decisions calls) → scripts_conflict (script calls u) (script calls t) k ≡ true → WritesSome calls t → WritesSome calls u →
      (transaction w u).stamp < (transaction w t).stamp
  -- No stamp exceeds 587,775, and no other number does.
  pub numbers_small : NumbersWithin 587775 w
  -- A refused call changes nothing.
  pub refused_unchanged : (request : Request) (r : Refusal) → (step free w request).0 ≡ Refused r → (step free w request).1 ≡ w
  -- For each key that an update writes at a node where it is engaged a place is set aside there: the store refuses neither to put a version
  -- nor to take the place back.
  pub places_kept :
      (t p k : ℕ) → is_begun w t ≡ true → marked (transaction w t).engaged p ≡ true → wrote (transaction w t) k ≡ true → holds w p k ≡ true →
      aside_there w.store p k ≡ true

-- They are kept whatever the rule of free places, the make that was accepted, and the calls.
abbrev pub PromisesKept : Type 0
PromisesKept =
    (free : FreeRule) (nodes : ℕ) (placement : List ℕ) → can_make nodes (length placement) placement ≡ true → (requests : List Request) →
    Promises free (transcript free (made_world nodes placement) requests) (world_after free (made_world nodes placement) requests)
