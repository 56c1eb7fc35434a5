-- Whether a vertex that a record has met lacks a slot. Assumes nothing.
use Rattle.std.specs.Prelude.{Bool, true, false}
use Rattle.worktable.specs.declared.Passed.{Passed}

unfoldable pub is_new : Passed → Bool
is_new Passed.Absent = true
is_new Passed.Kept = false
is_new (Passed.Spent s) = false
