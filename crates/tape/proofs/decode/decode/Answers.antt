use Rattle.std.proofs.Common.{rules}
use Rattle.tape.proofs.decode.decode.Goals.{in_default-via-in-Make+then-body-lt2, in_default-via-in-Make-len2-up+else-placement-from, in_default-via-in-Begin+then-this-lt1, in_default-via-in-Begin+else-this-lt1+then-this-lt2+else-this-lt2-2, in_default-via-in-Begin+else-this-lt1+else-this-lt2, in_default-via-in-Read+then-this-lt3, in_default-via-in-Read+else-this-lt3+else-this-lt4, in_default-via-in-Write+then-this-lt2-3, in_default-via-in-Write-len2-up+else-value-eq8, in_default-via-in-Offer+then-this-lt1-2, in_default-via-in-Offer+else-this-lt1-2+else-this-lt2-4, in_default-via-in-Prepare+then-this-lt2-5, in_default-via-in-Prepare+else-this-lt2-5+else-this-lt3-2, in_default-via-in-Decide+then-this-lt1-3, in_default-via-in-Decide+else-this-lt1-3+else-this-lt2-6, in_default-via-in-Cancel+then-this-lt1-4, in_default-via-in-Cancel+else-this-lt1-4+else-this-lt2-7, in_default-via-in-Learn+then-this-lt2-8, in_default-via-in-Learn+else-this-lt2-8+else-this-lt3-3, in_default-via-in-Apply+then-this-lt1-5, in_default-via-in-Apply+else-this-lt1-5+else-this-lt2-9, in_default-via-in-Finish+then-this-lt1-6, in_default-via-in-Finish+else-this-lt1-6+else-this-lt2-10}
use Rattle.tape.proofs.decode.decode.Goals as goal

pub returns-in_default : goal.returns-in_default
returns-in_default c = elim c.in_default.branch [ in_default-via-in-Make+then-body-lt2 w ↦ search rules | in_default-via-in-Make-len2-up+else-placement-from w ↦ search rules | in_default-via-in-Begin+then-this-lt1 w ↦ search rules | in_default-via-in-Begin+else-this-lt1+then-this-lt2+else-this-lt2-2 w ↦ search rules | in_default-via-in-Begin+else-this-lt1+else-this-lt2 w ↦ search rules | in_default-via-in-Read+then-this-lt3 w ↦ search rules | in_default-via-in-Read+else-this-lt3+else-this-lt4 w ↦ search rules | in_default-via-in-Write+then-this-lt2-3 w ↦ search rules | in_default-via-in-Write-len2-up+else-value-eq8 w ↦ search rules | in_default-via-in-Offer+then-this-lt1-2 w ↦ search rules | in_default-via-in-Offer+else-this-lt1-2+else-this-lt2-4 w ↦ search rules | in_default-via-in-Prepare+then-this-lt2-5 w ↦ search rules | in_default-via-in-Prepare+else-this-lt2-5+else-this-lt3-2 w ↦ search rules | in_default-via-in-Decide+then-this-lt1-3 w ↦ search rules | in_default-via-in-Decide+else-this-lt1-3+else-this-lt2-6 w ↦ search rules | in_default-via-in-Cancel+then-this-lt1-4 w ↦ search rules | in_default-via-in-Cancel+else-this-lt1-4+else-this-lt2-7 w ↦ search rules | in_default-via-in-Learn+then-this-lt2-8 w ↦ search rules | in_default-via-in-Learn+else-this-lt2-8+else-this-lt3-3 w ↦ search rules | in_default-via-in-Apply+then-this-lt1-5 w ↦ search rules | in_default-via-in-Apply+else-this-lt1-5+else-this-lt2-9 w ↦ search rules | in_default-via-in-Finish+then-this-lt1-6 w ↦ search rules | in_default-via-in-Finish+else-this-lt1-6+else-this-lt2-10 w ↦ search rules ]
