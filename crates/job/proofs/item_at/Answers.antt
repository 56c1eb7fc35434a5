-- `job::item_at` meets its contract: each arm is the case of `item_of` that the kind and its test pick. Assumes nothing.
use borrow.Author.Tests.{ne_eqb, lt-ltb, le-ltb}
use Rattle.job.specs.Job.{kind_at}
use Rattle.job.specs.Steps.{item_of}
use Rattle.job.proofs.item_at.Goals as goal

pub returns-then-passed-pad : goal.returns-then-passed-pad
unfolding item_of kind_at
returns-then-passed-pad c =
    simp (← c.word_at-kind.ensures, c.in-1.is, ← c.word_at-pad.ensures, c.if-passed-pad.true)

pub returns-else-passed-pad : goal.returns-else-passed-pad
unfolding item_of kind_at
returns-else-passed-pad c =
    simp (← c.word_at-kind.ensures, c.in-1.is, ← c.word_at-pad.ensures, c.if-passed-pad.false)

pub returns-then-passed : goal.returns-then-passed
unfolding item_of kind_at
returns-then-passed c =
    simp (← c.word_at-kind.ensures, c.in-2.is, c.if-passed.true)

pub returns-else-passed : goal.returns-else-passed
unfolding item_of kind_at
returns-else-passed c =
    simp (← c.word_at-kind.ensures, c.in-2.is, c.if-passed.false)

pub returns-then-passed-lt1024 : goal.returns-then-passed-lt1024
unfolding item_of kind_at
returns-then-passed-lt1024 c =
    simp (← c.word_at-kind.ensures, c.in-3.is, lt-ltb _ _ c.if-passed-lt1024.true)

pub returns-else-passed-lt1024 : goal.returns-else-passed-lt1024
unfolding item_of kind_at
returns-else-passed-lt1024 c =
    simp (← c.word_at-kind.ensures, c.in-3.is, le-ltb _ _ c.if-passed-lt1024.false)

pub returns-in-4 : goal.returns-in-4
unfolding item_of kind_at
returns-in-4 c = simp (← c.word_at-kind.ensures, c.in-4.is)

pub returns-in_default : goal.returns-in_default
unfolding item_of kind_at
returns-in_default c =
    let r = c.in_default.in_default-own.rest in
    simp (← c.word_at-kind.ensures, ne_eqb _ _ r.1, ne_eqb _ _ r.0.1, ne_eqb _ _ r.0.0.1, ne_eqb _ _ r.0.0.0.1)
