-- The statements on histories: of every reachable state s with its history h.  What transactions did and were answered, which of them
-- committed and what was applied is taken from the history; chains, clocks, stamps and frontiers are those of the state.
use Rattle.std.specs.Prelude.{◌≡◌, ℕ, ◌+◌, ◌*◌, ◌<◌, ◌≤◌, Bool, true, ◌⊎◌, List, ◌∷◌, ◌++◌, length}
use mathlib.Core.List.{Perm}
use Rattle.history.specs.Table.{Version, Table, first_table, after, puts, scripts_conflict, play_all, AllAnswered, Member, listed, Later, selected, newest}
use Rattle.history.specs.Protocol.{Placement, Committed, Clock, State, Event, status, clock, vote_clock, stamp, commit_clock, counter, frontier, seen, number, chain, MayRead, Reachable}
use Rattle.history.specs.History.{script, got, decisions, begun, applied_at, WasRead}

-- On the one table, what a transaction writes stays if it is committed.
abbrev pub stays : List Event → ℕ → Bool
stays h u = listed u (decisions h)

-- All transactions of an order, run singly on the one table, get every answer that they got.
abbrev pub OrderAnswered : List Event → List ℕ → Type 0
OrderAnswered h order = AllAnswered (script h) (stays h) (got h) order first_table

-- The table that an order of transactions leaves.
abbrev pub table_after : List Event → List ℕ → Table
table_after h order = play_all (script h) (stays h) order first_table

-- 1. The committed updates, each once in the order of decision and run singly on one table in this order, get every answer that they got.
abbrev pub DecisionOrderSerial : List Event → State → Type 0
DecisionOrderSerial h s = record {
  all : (u : ℕ) → status s u ≡ Committed → Member u (decisions h);
  only : (u : ℕ) → Member u (decisions h) → status s u ≡ Committed;
  once : (u : ℕ) → Later u u (decisions h) → ⊥;
  answered : OrderAnswered h (decisions h);
}

-- The versions of k that the writers among an order's members left: their last writes.
abbrev pub writers : List Event → ℕ → List ℕ → List Version
writers h k order = selected (λ u. puts (script h u) k) (λ u. after u (script h u) first_table k) order

-- 2. After its first version, a holder's chain of a key lists that key's committed writers, with their values, in the order of decision,
-- lacking at most the last.
abbrev pub ChainsListWriters : Placement → List Event → State → Type 0
ChainsListWriters holds h s =
    (p k : ℕ) → holds p k ≡ true →
    (chain s p k ≡ writers h k (decisions h)) ⊎ ((last : Version) × (writers h k (decisions h) ≡ last ∷ chain s p k))

-- 3. For each transaction that has not committed there is an order of the committed updates with a place for it, behind the earlier and
-- before the later ones, such that all of them and it get their answers; and the table ends as it does in the order of decision.
abbrev pub UncommittedHasAPlace : List Event → Type 0
UncommittedHasAPlace h =
    (t : ℕ) → (Member t (decisions h) → ⊥) →
    record {
      earlier : List ℕ;
      later : List ℕ;
      reordered : Perm (later ++ earlier) (decisions h);
      answered : OrderAnswered h (later ++ (t ∷ earlier));
      same_table : table_after h (later ++ (t ∷ earlier)) ≡ table_after h (decisions h);
    }

-- An update writes at a node that holds a key that it writes.
abbrev pub WritesAt : Placement → List Event → ℕ → ℕ → Type 0
WritesAt holds h u p = (k : ℕ) × (puts (script h u) k ≡ true) × (holds p k ≡ true)

-- A node has yet to apply a committed update that writes there, stamped no higher than t's slot for the node.
abbrev pub YetToApply : Placement → List Event → State → ℕ → ℕ → Type 0
YetToApply holds h s t p = record {
  update : ℕ;
  committed : Member update (decisions h);
  writes_there : WritesAt holds h update p;
  unapplied : Member update (applied_at h p) → ⊥;
  not_above : stamp s update ≤ clock s t p;
}

-- 4. A node's frontier is below a transaction's slot for that node exactly when the node has yet to apply such an update.
abbrev pub BehindExactly : Placement → List Event → State → Type 0
BehindExactly holds h s =
    (t p : ℕ) → (frontier s p < clock s t p → YetToApply holds h s t p) × (YetToApply holds h s t p → frontier s p < clock s t p)

-- A key's newest version applied at a node: that of the last update applied there that writes the key, else the first version.
abbrev pub newest_applied : List Event → ℕ → ℕ → Version
newest_applied h p k = newest (writers h k (applied_at h p))

-- 5. A transaction that has read nowhere, its own values aside, is never put off, and its first read gets the newest version applied at
-- that node.
abbrev pub FirstReadCurrent : Placement → List Event → State → Type 0
FirstReadCurrent holds h s =
    (t p : ℕ) → ((k q : ℕ) (a : Version) → WasRead h t k q a → ⊥) →
    (clock s t p ≤ frontier s p) × ((k : ℕ) (a : Version) (c : Clock) → MayRead holds s t k p a c → a ≡ newest_applied h p k)

-- 6. Of two conflicting committed updates that both wrote, the one decided first has the lower stamp.
abbrev pub StampsFollowDecisions : List Event → State → Type 0
StampsFollowDecisions h s =
    (t u k : ℕ) → Later t u (decisions h) → scripts_conflict (script h u) (script h t) k ≡ true →
    ((j : ℕ) × (puts (script h t) j ≡ true)) → ((j : ℕ) × (puts (script h u) j ≡ true)) → stamp s u < stamp s t

-- 7. No number of the state exceeds b.
abbrev pub NumbersWithin : ℕ → State → Type 0
NumbersWithin b s = record {
  counters : (p : ℕ) → counter s p ≤ b;
  numbers : (t p : ℕ) → number s t p ≤ b;
  stamps : (t : ℕ) → stamp s t ≤ b;
  frontiers : (p : ℕ) → frontier s p ≤ b;
  clocks : (t q : ℕ) → clock s t q ≤ b;
  vote_clocks : (t q : ℕ) → vote_clock s t q ≤ b;
  commit_clocks : (t q : ℕ) → commit_clock s t q ≤ b;
  seen_clocks : (p q : ℕ) → seen s p q ≤ b;
}

-- All of them, for a placement, a modulus of stamps and a number of nodes.  No number exceeds the nodes and one more, times the
-- transactions begun, times the modulus: each vote and each commit lets the numbers grow by at most the modulus.
abbrev pub HistoryStands : Placement → ℕ → ℕ → List Event → State → Type 0
HistoryStands holds modulus nodes h s = record {
  decision_order_serial : DecisionOrderSerial h s;
  chains_list_writers : ChainsListWriters holds h s;
  uncommitted_has_a_place : UncommittedHasAPlace h;
  behind_exactly : BehindExactly holds h s;
  first_read_current : FirstReadCurrent holds h s;
  stamps_follow_decisions : StampsFollowDecisions h s;
  numbers_bounded : NumbersWithin ((nodes + 1) * length (begun h) * modulus) s;
}

-- Where the nodes that hold keys are numbered below their count and the modulus is not 0, every history stands.
abbrev pub HistoriesStand : Type 0
HistoriesStand =
    (holds : Placement) (modulus nodes : ℕ) → 0 < modulus → ((p k : ℕ) → holds p k ≡ true → p < nodes) →
    (h : List Event) (s : State) → Reachable holds modulus h s → HistoryStands holds modulus nodes h s
