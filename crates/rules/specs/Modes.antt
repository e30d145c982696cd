-- The mode of a begin: 0 stands for a Search and 1 for an update, and there is no other.
use Rattle.std.specs.Prelude.{ℕ, zero, suc, Result, Ok, Err}
use Rattle.calls.specs.declared.refusal.Refusal.{Refusal}
use Rattle.calls.specs.declared.refusal.Refusal.TheVariants.{BadRecord}
use Rattle.rules.specs.declared.records.Kind.{Kind}
use Rattle.rules.specs.declared.records.Kind.TheVariants.{Search, Update}

abbrev pub kind_of : ℕ → Result Kind Refusal
kind_of zero = Ok Search
kind_of (suc zero) = Ok Update
kind_of (suc (suc mode)) = Err BadRecord
