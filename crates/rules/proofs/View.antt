-- The world as the protocol of histories sees it: functions of transaction, node and key.
use Rattle.std.proofs.Common.{◌≡◌, ℕ, cond, List, [], ◌∷◌, map, slice_index_or, None}
use Rattle.std.specs.Option.{unwrap_or}
use Rattle.calls.specs.declared.answer.Answer.{Answer}
use Rattle.calls.specs.Requests.{Request}
use Rattle.clock.specs.Clocks.{slot, marked}
use Rattle.store.specs.declared.Version.{Version as Stored}
use Rattle.history.specs.Table.{Version, version}
use Rattle.history.specs.Protocol as protocol
use Rattle.history.specs.Protocol.{Placement, Event, fresh, Accepted, next, Reachable}
use Rattle.history.specs.History.{Mark, mark, began, got_own, got_from, put_value, decided_commit, applied_there, nothing}
use Rattle.rules.specs.declared.records.Kind.{Kind}
use Rattle.rules.specs.declared.records.Kind.TheVariants.{Search, Update}
use Rattle.rules.specs.declared.records.State.{State}
use Rattle.rules.specs.declared.records.State.TheVariants.{Open, Offered, Committed, Aborted, Finished}
use Rattle.rules.specs.declared.records.Node.{Node}
use Rattle.rules.specs.declared.records.Transaction.{Transaction}
use Rattle.rules.specs.World.{World, is_begun, node, transaction, bit, noted, wrote, written_value}
use Rattle.rules.specs.Transcript as transcript
use Rattle.rules.specs.Transcript.{Transcript, Told, told}

-- The placement, as the protocol has it. A number that is no key has no holder.
abbrev pub placed : List ℕ → Placement
placed placement p k = bit (slice_index_or placement k 0) p

abbrev pub kind_of : Kind → protocol.Kind
kind_of Search = protocol.Search
kind_of Update = protocol.Update

abbrev pub status_of : State → protocol.Status
status_of Open = protocol.Open
status_of Offered = protocol.Offered
status_of Committed = protocol.Committed
status_of Aborted = protocol.Aborted
status_of Finished = protocol.Finished

abbrev pub transaction_of : Transaction → protocol.Transaction
transaction_of x = record {
  kind = kind_of x.kind;
  status = status_of x.state;
  reading = record { clock = λ q. slot x.clock q; read_at = λ q. marked x.read q; noted = λ k. noted x k; noted_writer = λ k. unwrap_or (slice_index_or x.noted k None) 0 };
  writing = record { wrote = λ k. wrote x k; value = λ k. written_value x k };
  outcome = record { refused = x.refused; vote_clock = λ q. slot x.votes q; stamp = x.stamp; commit_clock = λ q. slot x.commit q };
}

abbrev pub node_of : Node → protocol.Node
node_of n = record { counter = n.counter; frontier = n.frontier; seen = λ q. slot n.seen q }

abbrev pub participation_of : Transaction → ℕ → protocol.Participation
participation_of x p = record {
  voted = marked x.voted p;
  engaged = marked x.engaged p;
  number = slot x.numbers p;
  learned = marked x.learned p;
  applied = marked x.applied p;
}

abbrev pub version_of : Stored → Version
version_of v = version v.value v.writer

abbrev pub without_last : List Stored → List Stored
without_last [] = []
without_last (v ∷ []) = []
without_last (v ∷ u ∷ older) = v ∷ without_last (u ∷ older)

abbrev pub view : World → protocol.State
view w = record {
  transaction = λ t. cond (is_begun w t) (transaction_of (transaction w t)) (fresh.transaction t);
  node = λ p. node_of (node w p);
  participation = λ t p. cond (is_begun w t) (participation_of (transaction w t) p) (fresh.participation t p);
  chain = λ p k. map version_of (without_last (w.store p k).versions);
}

-- What an event's mark tells, in the words of transcripts.
abbrev pub told_by : Mark → Told
told_by (began t) = transcript.began t
told_by (got_own t k a) = transcript.got t k a
told_by (got_from t k p a) = transcript.got t k a
told_by (put_value t k v) = transcript.put_value t k v
told_by (decided_commit t) = transcript.decided_commit t
told_by (applied_there t p) = transcript.applied_there t p
told_by nothing = transcript.nothing

-- A history and a transcript match: each event stands for one call, and the other calls tell nothing.
pub data Matches : List Event → Transcript → Type 0 where
  none : Matches [] []
  skip : {h : List Event} {earlier : Transcript} (request : Request) (answer : Answer) → told request answer ≡ transcript.nothing → Matches h earlier → Matches h ((request, answer) ∷ earlier)
  event : {h : List Event} {earlier : Transcript} (e : Event) (request : Request) (answer : Answer) → told request answer ≡ told_by (mark e) → Matches h earlier → Matches (e ∷ h) ((request, answer) ∷ earlier)
