-- One version of a document at two nodes, or at neither.
use Rattle.std.specs.Prelude.{ℕ, cond, ◌&&◌, Ok, Err, Result}
use Rattle.store.specs.declared.Version.{Version}
use Rattle.store.specs.Model.{Meaning, FreeRule, aside_granted, aside_after, put_after}

-- The first of the two nodes that has no place for the document, if there is one.
abbrev pub filed_answer : FreeRule → Meaning → ℕ → ℕ → ℕ → Result (Unit {0}) ℕ
filed_answer free m first second key =
    cond (aside_granted free m first key)
    (cond (aside_granted free (aside_after free m first key) second key) (Ok tt) (Err second))
    (Err first)

-- Where both have a place, both then hold the version; else nothing changes.
abbrev pub filed_after : FreeRule → Meaning → ℕ → ℕ → ℕ → Version → Meaning
filed_after free m first second key version =
    cond (aside_granted free m first key && aside_granted free (aside_after free m first key) second key)
    (put_after (put_after (aside_after free (aside_after free m first key) second key) first key version) second key version)
    m
