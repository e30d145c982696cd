-- The protocol: what transactions and nodes know, as functions of transaction, node and key, and what each accepted call
-- requires and does.  A refused call does nothing, so it is no event here.
use Rattle.std.specs.Prelude.{◌≡◌, ℕ, ◌%◌, ◌<◌, ◌≤◌, max, Bool, true, false, cond, ◌&&◌, ◌||◌, ◌⊎◌, List, [], ◌∷◌, ◌==◌, ◌≢◌}
use Rattle.history.specs.Table.{Version, version, first_version, newest}

-- The placement says whether a node holds a key.
abbrev pub Placement : Type 0
Placement = ℕ → ℕ → Bool

-- ── Clocks and numbers ──

-- A clock has a slot for each node.
abbrev pub Clock : Type 0
Clock = ℕ → ℕ

-- The slot-by-slot maximum.
abbrev pub join : Clock → Clock → Clock
join a b q = max (a q) (b q)

-- The least number with a property.
abbrev pub Least : (ℕ → Type 0) → ℕ → Type 0
Least P n = record { has : P n; least : (m : ℕ) → P m → n ≤ m }

-- The next number for t after c: the least above c that leaves t when it is divided by the modulus.
abbrev pub NextNumber : ℕ → ℕ → ℕ → ℕ → Type 0
NextNumber modulus c t n = Least (λ m. (c < m) × (m % modulus ≡ t)) n

-- ── The state ──

pub data Kind : Type 0 where
  Search Update : Kind

pub data Status : Type 0 where
  Unbegun Open Offered Committed Aborted Finished : Status

-- What a transaction has read.
pub record Reading : Type 0 where
  pub clock : Clock  -- what it has read lies within this clock
  pub read_at : ℕ → Bool  -- the nodes that it has read at
  pub noted : ℕ → Bool  -- the keys that it has read from a node, as an update
  pub noted_writer : ℕ → ℕ  -- the writer that it noted for such a key

-- What it has written.
pub record Writing : Type 0 where
  pub wrote : ℕ → Bool  -- the keys
  pub value : ℕ → ℕ  -- the value that it wrote last to such a key

-- What came of its offer.
pub record Outcome : Type 0 where
  pub refused : Bool  -- a node has voted no
  pub vote_clock : Clock  -- the join of the clocks that the yes votes carried
  pub stamp : ℕ  -- once committed
  pub commit_clock : Clock  -- once committed

pub record Transaction : Type 0 where
  pub kind : Kind
  pub status : Status
  pub reading : Reading
  pub writing : Writing
  pub outcome : Outcome

-- What is known of a node.
pub record Node : Type 0 where
  pub counter : ℕ  -- the highest number that it has given or learned
  pub frontier : ℕ  -- the stamp of the update that it applied last
  pub seen : Clock  -- the join of the commit clocks of the updates that it has released

-- What a node knows of a transaction that polls it.
pub record Participation : Type 0 where
  pub voted : Bool  -- the node has voted on it
  pub engaged : Bool  -- from its yes until its release
  pub number : ℕ  -- the place in the node's queue of updates to apply
  pub learned : Bool  -- the node has learned the decision
  pub applied : Bool  -- the node has applied it

pub record State : Type 0 where
  pub transaction : ℕ → Transaction
  pub node : ℕ → Node
  pub participation : ℕ → ℕ → Participation  -- of a transaction at a node
  pub chain : ℕ → ℕ → List Version  -- a node's versions of a key, newest first, the first version left out

-- Nothing has happened yet.
abbrev pub fresh : State
fresh = record {
  transaction = λ t. record {
    kind = Search;
    status = Unbegun;
    reading = record { clock = λ q. 0; read_at = λ q. false; noted = λ k. false; noted_writer = λ k. 0 };
    writing = record { wrote = λ k. false; value = λ k. 0 };
    outcome = record { refused = false; vote_clock = λ q. 0; stamp = 0; commit_clock = λ q. 0 };
  };
  node = λ p. record { counter = 0; frontier = 0; seen = λ q. 0 };
  participation = λ t p. record { voted = false; engaged = false; number = 0; learned = false; applied = false };
  chain = λ p k. [];
}

-- Every field as a function of the state.
module _ (s : State) where
  abbrev pub kind : ℕ → Kind
  kind t = (s.transaction t).kind

  abbrev pub status : ℕ → Status
  status t = (s.transaction t).status

  abbrev pub clock : ℕ → Clock
  clock t = (s.transaction t).reading.clock

  abbrev pub read_at : ℕ → ℕ → Bool
  read_at t = (s.transaction t).reading.read_at

  abbrev pub noted : ℕ → ℕ → Bool
  noted t = (s.transaction t).reading.noted

  abbrev pub noted_writer : ℕ → ℕ → ℕ
  noted_writer t = (s.transaction t).reading.noted_writer

  abbrev pub wrote : ℕ → ℕ → Bool
  wrote t = (s.transaction t).writing.wrote

  abbrev pub value : ℕ → ℕ → ℕ
  value t = (s.transaction t).writing.value

  abbrev pub refused : ℕ → Bool
  refused t = (s.transaction t).outcome.refused

  abbrev pub vote_clock : ℕ → Clock
  vote_clock t = (s.transaction t).outcome.vote_clock

  abbrev pub stamp : ℕ → ℕ
  stamp t = (s.transaction t).outcome.stamp

  abbrev pub commit_clock : ℕ → Clock
  commit_clock t = (s.transaction t).outcome.commit_clock

  abbrev pub counter : ℕ → ℕ
  counter p = (s.node p).counter

  abbrev pub frontier : ℕ → ℕ
  frontier p = (s.node p).frontier

  abbrev pub seen : ℕ → Clock
  seen p = (s.node p).seen

  abbrev pub voted : ℕ → ℕ → Bool
  voted t p = (s.participation t p).voted

  abbrev pub engaged : ℕ → ℕ → Bool
  engaged t p = (s.participation t p).engaged

  abbrev pub number : ℕ → ℕ → ℕ
  number t p = (s.participation t p).number

  abbrev pub learned : ℕ → ℕ → Bool
  learned t p = (s.participation t p).learned

  abbrev pub applied : ℕ → ℕ → Bool
  applied t p = (s.participation t p).applied

  abbrev pub chain : ℕ → ℕ → List Version
  chain p k = s.chain p k

  -- Noted or written.
  abbrev pub touched : ℕ → ℕ → Bool
  touched t k = noted t k || wrote t k

  -- Two updates conflict at a key: one writes it, and the other notes or writes it.
  abbrev pub conflict : ℕ → ℕ → ℕ → Bool
  conflict u t k = (wrote u k && touched t k) || (noted u k && wrote t k)

  -- The version of k that u writes.
  abbrev pub written_version : ℕ → ℕ → Version
  written_version k u = version (value u k) u

  -- The writer that t has noted for k after a read that answered w: a note is made once a key, so an earlier one stays.
  abbrev pub first_noted : ℕ → ℕ → ℕ → ℕ
  first_noted t k w = cond (noted t k) (noted_writer t k) w

  -- The clock that a decision starts from: the join of the transaction's clock and of those that the votes carried.
  abbrev pub base_clock : ℕ → Clock
  base_clock t = join (clock t) (vote_clock t)

-- ── Named changes ──

-- Each changes one record.  `here` says whether the record is the one that the event is about; elsewhere nothing changes.

-- it begins as a Search or as an update
abbrev pub begins : Kind → Bool → Transaction → Transaction
begins a here x = record x { kind = cond here a x.kind; status = cond here Open x.status }

-- its status is now a
abbrev pub becomes : Status → Bool → Transaction → Transaction
becomes a here x = record x { status = cond here a x.status }

-- it has read at p, and its clock is now c
abbrev pub reads : ℕ → Clock → Bool → Transaction → Transaction
reads p c here x = record x { reading = record x.reading { clock = cond here c x.reading.clock; read_at = λ q. cond (here && p == q) true (x.reading.read_at q) } }

-- it has noted k, with the writer w
abbrev pub notes : ℕ → ℕ → Bool → Transaction → Transaction
notes k w here x = record x { reading = record x.reading { noted = λ j. cond (here && k == j) true (x.reading.noted j); noted_writer = λ j. cond (here && k == j) w (x.reading.noted_writer j) } }

-- it holds the value v for k, in place of an earlier one
abbrev pub writes : ℕ → ℕ → Bool → Transaction → Transaction
writes k v here x = record x { writing = record { wrote = λ j. cond (here && k == j) true (x.writing.wrote j); value = λ j. cond (here && k == j) v (x.writing.value j) } }

-- a node has voted no on it
abbrev pub is_refused : Bool → Transaction → Transaction
is_refused here x = record x { outcome = record x.outcome { refused = cond here true x.outcome.refused } }

-- the join of the clocks that its votes carried is now c
abbrev pub joins_votes : Clock → Bool → Transaction → Transaction
joins_votes c here x = record x { outcome = record x.outcome { vote_clock = cond here c x.outcome.vote_clock } }

-- it is committed with a stamp and a commit clock
abbrev pub commits : ℕ → Clock → Bool → Transaction → Transaction
commits n c here x = record x { status = cond here Committed x.status; outcome = record x.outcome { stamp = cond here n x.outcome.stamp; commit_clock = cond here c x.outcome.commit_clock } }

-- its counter is now n
abbrev pub counts : ℕ → Bool → Node → Node
counts n here x = record x { counter = cond here n x.counter }

-- its frontier is now n
abbrev pub advances : ℕ → Bool → Node → Node
advances n here x = record x { frontier = cond here n x.frontier }

-- its seen clock is now c
abbrev pub sees : Clock → Bool → Node → Node
sees c here x = record x { seen = cond here c x.seen }

-- it has voted no
abbrev pub votes_no : Bool → Participation → Participation
votes_no here x = record x { voted = cond here true x.voted }

-- it has voted yes: from now on the transaction is engaged there
abbrev pub votes_yes : Bool → Participation → Participation
votes_yes here x = record x { voted = cond here true x.voted; engaged = cond here true x.engaged }

-- the transaction's number there is now n
abbrev pub takes_number : ℕ → Bool → Participation → Participation
takes_number n here x = record x { number = cond here n x.number }

-- it has learned the decision
abbrev pub learns : Bool → Participation → Participation
learns here x = record x { learned = cond here true x.learned }

-- it releases the transaction
abbrev pub releases : Bool → Participation → Participation
releases here x = record x { engaged = cond here false x.engaged }

-- it has applied the transaction
abbrev pub applies : Bool → Participation → Participation
applies here x = record x { applied = cond here true x.applied }

-- The same in the whole state.
abbrev pub change_transaction : ℕ → (Bool → Transaction → Transaction) → State → State
change_transaction t f s = record s { transaction = λ u. f (t == u) (s.transaction u) }

abbrev pub change_node : ℕ → (Bool → Node → Node) → State → State
change_node p f s = record s { node = λ q. f (p == q) (s.node q) }

abbrev pub change_participation : ℕ → ℕ → (Bool → Participation → Participation) → State → State
change_participation t p f s = record s { participation = λ u q. f (t == u && p == q) (s.participation u q) }

abbrev pub change_chains : (ℕ → ℕ → List Version) → State → State
change_chains f s = record s { chain = f }

-- ── The events ──

-- An accepted call, with its answer.
pub data Event : Type 0 where
  begin : ℕ → Kind → Event  -- transaction, kind
  read_own : ℕ → ℕ → Version → Event  -- a read of a key that the transaction has written: transaction, key, answer
  read_search : ℕ → ℕ → ℕ → Version → Clock → Event  -- a Search's read: transaction, key, node, answer, clock after
  read_update : ℕ → ℕ → ℕ → Version → Clock → Event  -- an update's read, which notes the key
  write : ℕ → ℕ → ℕ → Event  -- transaction, key, value
  offer : ℕ → Event
  yes_write : ℕ → ℕ → ℕ → Event  -- a yes at a write node: transaction, node, number
  yes_read : ℕ → ℕ → Event  -- a yes at another node
  no_overtaken : ℕ → ℕ → ℕ → Event  -- a no, since a noted key has a newer version: transaction, node, key
  no_place : ℕ → ℕ → ℕ → Event  -- a no, since the store has no place for a written key: transaction, node, key
  commit : ℕ → ℕ → Clock → Event  -- transaction, stamp, commit clock
  abort : ℕ → Event  -- decided to abort
  cancel : ℕ → Event
  learn_abort : ℕ → ℕ → Event  -- transaction, node
  learn_write : ℕ → ℕ → Event  -- a commit is learned at a write node
  learn_read : ℕ → ℕ → Event  -- a commit is learned at another node
  apply : ℕ → ℕ → Event  -- transaction, node
  finish : ℕ → Event

-- ── Reading ──

-- A commit clock passes for a clock when it is no higher in each slot of a node that was read at.
abbrev pub Passes : Clock → (ℕ → Bool) → Clock → Type 0
Passes c read_at clock = (q : ℕ) → read_at q ≡ true → c q ≤ clock q

-- What u wrote passes for t.
abbrev pub Visible : State → ℕ → ℕ → Type 0
Visible s u t = Passes (commit_clock s u) (read_at s t) (clock s t)

-- The clock of t after a read at p: where t has not read at p before, the join of its clock and the commit clocks of all updates
-- applied at p that pass, which is the least clock above them all; else its clock.
abbrev pub Joined : State → ℕ → ℕ → Clock → Type 0
Joined s t p c = record {
  above : (q : ℕ) → clock s t q ≤ c q;
  takes : (u : ℕ) → read_at s t p ≡ false → applied s u p ≡ true → Visible s u t → (q : ℕ) → commit_clock s u q ≤ c q;
  least : (q : ℕ) → (c q ≡ clock s t q) ⊎ ((u : ℕ) × (read_at s t p ≡ false) × (applied s u p ≡ true) × Visible s u t × (c q ≡ commit_clock s u q));
}

-- The newest version of a chain that passes.  The first version passes always.
abbrev pub NewestPassing : State → (ℕ → Bool) → Clock → List Version → Version → Type 0
NewestPassing s read_at clock [] a = a ≡ first_version
NewestPassing s read_at clock (x ∷ chain) a =
    (Passes (commit_clock s x.writer) read_at clock × (a ≡ x))
    ⊎ ((Passes (commit_clock s x.writer) read_at clock → ⊥) × NewestPassing s read_at clock chain a)

module _ (holds : Placement) where
  -- The nodes that an offered update polls hold a key that it noted or wrote; those that hold a key that it wrote are its write nodes.
  abbrev pub Polled : State → ℕ → ℕ → Type 0
  Polled s t p = (k : ℕ) × (touched s t k ≡ true) × (holds p k ≡ true)

  abbrev pub WriteNode : State → ℕ → ℕ → Type 0
  WriteNode s t p = (k : ℕ) × (wrote s t k ≡ true) × (holds p k ≡ true)

  -- An open transaction t that has not written k gets the answer a to its read of k at p, and its clock becomes c: p holds k, the slot
  -- of p is not above p's frontier, and a is the newest version there that passes after the read.
  abbrev pub MayRead : State → ℕ → ℕ → ℕ → Version → Clock → Type 0
  MayRead s t k p a c = record {
    open_now : status s t ≡ Open;
    unwritten : wrote s t k ≡ false;
    held : holds p k ≡ true;
    settled : clock s t p ≤ frontier s p;
    joined : Joined s t p c;
    answer : NewestPassing s (λ q. (p == q) || read_at s t q) c (chain s p k) a;
  }

  -- p may vote on t: t is offered and polls p, p has not voted on it, and is not busy: no other update engaged at p conflicts with t at
  -- a key that p holds.
  abbrev pub MayVote : State → ℕ → ℕ → Type 0
  MayVote s t p = record {
    offered : status s t ≡ Offered;
    polled : Polled s t p;
    unvoted : voted s t p ≡ false;
    not_busy : (u k : ℕ) → engaged s u p ≡ true → (u ≢ t) → holds p k ≡ true → conflict s u t k ≡ false;
  }

  -- What t noted of k is out of date at p.
  abbrev pub Overtaken : State → ℕ → ℕ → ℕ → Type 0
  Overtaken s t p k = (holds p k ≡ true) × (noted s t k ≡ true) × (noted_writer s t k ≢ (newest (chain s p k)).writer)

  -- Nothing that t noted is out of date at p.
  abbrev pub Current : State → ℕ → ℕ → Type 0
  Current s t p = (k : ℕ) → holds p k ≡ true → noted s t k ≡ true → noted_writer s t k ≡ (newest (chain s p k)).writer

  -- p may learn that t was decided in this way.
  abbrev pub MayLearn : State → ℕ → ℕ → Status → Type 0
  MayLearn s t p x = record { decided : status s t ≡ x; polled : Polled s t p; unlearned : learned s t p ≡ false }

  -- Apply puts what t wrote of p's keys, as the newest versions.
  abbrev pub put_versions : State → ℕ → ℕ → ℕ → ℕ → List Version
  put_versions s t p q k = cond (p == q && (holds q k && wrote s t k)) (written_version s k t ∷ chain s q k) (chain s q k)

  -- The state after an event.
  abbrev pub next : State → Event → State
  -- it opens; its clock is zero and no node counts as read, as from the start
  next s (begin t a) = change_transaction t (begins a) s
  -- an own value changes nothing
  next s (read_own t k a) = s
  -- p counts as read, and the clock is that after the read
  next s (read_search t k p a c) = change_transaction t (reads p c) s
  -- an update also notes the key with its writer
  next s (read_update t k p a c) = change_transaction t (notes k (first_noted s t k a.writer)) (change_transaction t (reads p c) s)
  -- it holds the value until it is decided
  next s (write t k v) = change_transaction t (writes k v) s
  -- from now on it reads and writes no more
  next s (offer t) = change_transaction t (becomes Offered) s
  -- t is engaged at p, and n is its number there and p's counter; the vote carries p's seen clock
  next s (yes_write t p n) =
      change_participation t p (takes_number n) (change_participation t p votes_yes
      (change_transaction t (joins_votes (join (vote_clock s t) (seen s p))) (change_node p (counts n) s)))
  -- elsewhere the same without a number
  next s (yes_read t p) =
      change_participation t p votes_yes (change_transaction t (joins_votes (join (vote_clock s t) (seen s p))) s)
  -- after a no it can only abort
  next s (no_overtaken t p k) = change_participation t p votes_no (change_transaction t is_refused s)
  next s (no_place t p k) = change_participation t p votes_no (change_transaction t is_refused s)
  -- it is committed with its stamp and its commit clock
  next s (commit t n c) = change_transaction t (commits n c) s
  -- it is aborted, by its decision or by a cancel
  next s (abort t) = change_transaction t (becomes Aborted) s
  next s (cancel t) = change_transaction t (becomes Aborted) s
  -- p releases what was aborted
  next s (learn_abort t p) = change_participation t p releases (change_participation t p learns s)
  -- a write node takes the stamp for t's number, and its counter rises to at least that
  next s (learn_write t p) =
      change_participation t p (takes_number (stamp s t)) (change_participation t p learns
      (change_node p (counts (max (counter s p) (stamp s t))) s))
  -- another node releases t, and its seen clock takes in the commit clock
  next s (learn_read t p) =
      change_participation t p releases (change_participation t p learns
      (change_node p (sees (join (seen s p) (commit_clock s t))) s))
  -- p puts what t wrote, its frontier becomes the stamp, and it releases t, taking in the commit clock
  next s (apply t p) =
      change_participation t p releases (change_participation t p applies
      (change_node p (advances (stamp s t)) (change_node p (sees (join (seen s p) (commit_clock s t))) (change_chains (put_versions s t p) s))))
  -- a Search ends
  next s (finish t) = change_transaction t (becomes Finished) s

  -- The modulus of stamps: whatever number is given to transaction t leaves t when it is divided by the modulus.
  module _ (modulus : ℕ) where
    -- The stamp of t: the least number that leaves t, is not below any of t's numbers at its write nodes, and is above every slot of
    -- the base clock.
    abbrev pub LeastStamp : State → ℕ → ℕ → Type 0
    LeastStamp s t n = Least (λ m. (m % modulus ≡ t) × ((p : ℕ) → WriteNode s t p → number s t p ≤ m) × ((q : ℕ) → base_clock s t q < m)) n

    -- t is decided to commit with the stamp n and the commit clock c: no node voted no, and all that it polls voted.  An update without
    -- write nodes has the stamp 0.  The commit clock is the base clock with the stamp in the slots of the write nodes.
    abbrev pub MayCommit : State → ℕ → ℕ → Clock → Type 0
    MayCommit s t n c = record {
      offered : status s t ≡ Offered;
      agreed : refused s t ≡ false;
      complete : (p : ℕ) → Polled s t p → voted s t p ≡ true;
      stamped : (p : ℕ) → WriteNode s t p → LeastStamp s t n;
      unwritten : ((p : ℕ) → WriteNode s t p → ⊥) → n ≡ 0;
      slots : (q : ℕ) → (WriteNode s t q × (c q ≡ n)) ⊎ ((WriteNode s t q → ⊥) × (c q ≡ base_clock s t q));
    }

    -- What an event requires, where it is accepted.
    abbrev pub Accepted : State → Event → Type 0
    -- every transaction begins once; they are numbered from 1
    Accepted s (begin t a) = (status s t ≡ Unbegun) × (0 < t)
    -- where t has written k, its own value with its own number is the answer
    Accepted s (read_own t k a) = (status s t ≡ Open) × (wrote s t k ≡ true) × (a ≡ written_version s k t)
    -- a Search reads what it may read
    Accepted s (read_search t k p a c) = MayRead s t k p a c × (kind s t ≡ Search)
    -- an update's answer must be the newest version there, else the read is overtaken and refused
    Accepted s (read_update t k p a c) = MayRead s t k p a c × (kind s t ≡ Update) × (a.writer ≡ (newest (chain s p k)).writer)
    -- only open updates write, keys that some node holds, and are offered
    Accepted s (write t k v) = (status s t ≡ Open) × (kind s t ≡ Update) × ((p : ℕ) × (holds p k ≡ true))
    Accepted s (offer t) = (status s t ≡ Open) × (kind s t ≡ Update)
    -- p votes yes if nothing is overtaken; a write node gives the next number after its counter
    Accepted s (yes_write t p n) = record { vote : MayVote s t p; current : Current s t p; write_node : WriteNode s t p; numbered : NextNumber modulus (counter s p) t n }
    Accepted s (yes_read t p) = record { vote : MayVote s t p; current : Current s t p; only_read : WriteNode s t p → ⊥ }
    -- p votes no with the lowest key that is overtaken
    Accepted s (no_overtaken t p k) = MayVote s t p × Least (Overtaken s t p) k
    -- or, with nothing overtaken, with a written key that it holds; whether the store has a place for it is the store's matter
    Accepted s (no_place t p k) = MayVote s t p × Current s t p × (wrote s t k ≡ true) × (holds p k ≡ true)
    -- an offered update is decided to commit, or to abort where a node voted no
    Accepted s (commit t n c) = MayCommit s t n c
    Accepted s (abort t) = (status s t ≡ Offered) × (refused s t ≡ true)
    -- an update that is not decided can be cancelled
    Accepted s (cancel t) = (kind s t ≡ Update) × ((status s t ≡ Open) ⊎ (status s t ≡ Offered))
    -- each polled node learns the decision once (an update that was cancelled before its offer polls nobody; what a node marks of it here
    -- has no effect)
    Accepted s (learn_abort t p) = MayLearn s t p Aborted
    Accepted s (learn_write t p) = MayLearn s t p Committed × WriteNode s t p
    Accepted s (learn_read t p) = MayLearn s t p Committed × (WriteNode s t p → ⊥)
    -- of the updates engaged at p that write there, t has the least number, and p has learned its decision
    Accepted s (apply t p) = record {
      engaged_there : engaged s t p ≡ true;
      write_node : WriteNode s t p;
      learned_there : learned s t p ≡ true;
      least : (u : ℕ) → engaged s u p ≡ true → WriteNode s u p → number s t p ≤ number s u p;
    }
    -- an open Search can end
    Accepted s (finish t) = (status s t ≡ Open) × (kind s t ≡ Search)

    -- The states that accepted events lead to, each with its history, the newest event first.
    pub data Reachable : List Event → State → Type 0 where
      start : Reachable [] fresh
      then : {h : List Event} {s : State} (e : Event) → Reachable h s → Accepted s e → Reachable (e ∷ h) (next s e)
