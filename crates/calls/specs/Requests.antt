use Rattle.std.specs.Prelude.{ℕ, List}
use Rattle.calls.specs.declared.call.Call.{Call}
use Rattle.calls.specs.declared.call.Call.TheVariants.{Make, Begin, Read, Write, Offer, Prepare, Decide, Cancel, Learn, Apply, Finish}

-- What a call asks, apart from where its placement lies in memory: the placement is the list of its bytes. `t` is a transaction, `k` a key, `p` a node.
pub data Request : Type 0 where
  make : (nodes keys : ℕ) (placement : List ℕ) → Request
  begin : (mode : ℕ) → Request
  read : (t k p : ℕ) → Request
  write : (t k value : ℕ) → Request
  offer : (t : ℕ) → Request
  prepare : (t p : ℕ) → Request
  decide : (t : ℕ) → Request
  cancel : (t : ℕ) → Request
  learn : (t p : ℕ) → Request
  apply : (p : ℕ) → Request
  finish : (t : ℕ) → Request

-- The request that a call of the program makes.
abbrev pub request : Call → Request
request (Make nodes keys placement) = make nodes keys placement.now
request (Begin mode) = begin mode
request (Read t k p) = read t k p
request (Write t k value) = write t k value
request (Offer t) = offer t
request (Prepare t p) = prepare t p
request (Decide t) = decide t
request (Cancel t) = cancel t
request (Learn t p) = learn t p
request (Apply p) = apply p
request (Finish t) = finish t
