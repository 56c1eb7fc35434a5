-- One field of a line: how the reading goes on behind it. Assumes nothing.
use Prim.Native.Nat.{ℕ, zero, suc, ◌+◌, ◌-◌, ◌≤◌, ◌<◌}
use native.Mathlib.Omega.{arith}
use mathlib.Core.Path.{◌≡◌}
use mathlib.Core.Bool.{true, false}
use mathlib.Core.List.{List}
use lib.ListN.{length, get_or}
use borrow.Author.Tests.{eq-eqb, ne_eqb}
use Rattle.lines.specs.declared.Stand.TheVariants.{Begins, Ended, Broken}
use Rattle.lines.specs.Passing.{opens_at, plain_stop, quoted_stop, stand}
use Rattle.lines.specs.Spans.{span_at}

one_less : (k : ℕ) → suc k - 1 ≡ k
one_less k = omega arith

module _ (s : List ℕ) (at : ℕ) where
  pub none_left : (left : ℕ) → left ≡ 1 → stand s (left - 1) at ≡ Begins at
  unfolding stand
  none_left left e = rw e

  pub all-passed : (left : ℕ) → left ≤ 0 → stand s left at ≡ Begins at
  unfolding stand
  all-passed left h = let e : left ≡ 0 = omega arith in rw e

  -- a plain field: it ends the line, breaks it, or another field follows
  module _ (stop : ℕ) (q : opens_at s at ≡ false) (e : stop ≡ plain_stop s at) where
    pub plain-ends : (left : ℕ) → 0 < left → stop ≡ length s → stand s left at ≡ Ended (left - 1)
    unfolding stand
    plain-ends zero h p = absurd (omega arith)
    plain-ends (suc k) h p = rw (q, ← e, eq-eqb _ _ p, one_less k)

    pub plain-breaks : (left : ℕ) → 0 < left → (stop ≡ length s → ⊥) → get_or s (stop) 0 ≡ 34 → stand s left at ≡ Broken left
    unfolding stand
    plain-breaks zero h n p = absurd (omega arith)
    plain-breaks (suc k) h n p = rw (q, ← e, ne_eqb _ _ n, eq-eqb _ _ p)

    pub plain-goes : (left : ℕ) → 0 < left → (stop ≡ length s → ⊥) → (get_or s (stop) 0 ≡ 34 → ⊥)
        → stand s left at ≡ stand s (left - 1) (stop + 1)
    unfolding stand
    plain-goes zero h n p = absurd (omega arith)
    plain-goes (suc k) h n p = rw (q, ← e, ne_eqb _ _ n, ne_eqb _ _ p, one_less k)

  -- a quoted field: it is never closed, ends the line, another byte than a comma follows it, or another field does
  module _ (stop : ℕ) (q : opens_at s at ≡ true) (e : stop ≡ quoted_stop s (at + 1)) where
    pub quoted-open : (left : ℕ) → 0 < left → stop ≡ length s → stand s left at ≡ Broken left
    unfolding stand
    quoted-open zero h p = absurd (omega arith)
    quoted-open (suc k) h p = rw (q, ← e, eq-eqb _ _ p)

    module _ (n : stop ≡ length s → ⊥) where
      pub quoted-ends : (left : ℕ) → 0 < left → stop + 1 ≡ length s → stand s left at ≡ Ended (left - 1)
      unfolding stand
      quoted-ends zero h p = absurd (omega arith)
      quoted-ends (suc k) h p = rw (q, ← e, ne_eqb _ _ n, eq-eqb _ _ p, one_less k)

      module _ (m : stop + 1 ≡ length s → ⊥) where
        pub quoted-breaks : (left : ℕ) → 0 < left → (get_or s (stop + 1) 0 ≡ 44 → ⊥) → stand s left at ≡ Broken left
        unfolding stand
        quoted-breaks zero h p = absurd (omega arith)
        quoted-breaks (suc k) h p = rw (q, ← e, ne_eqb _ _ n, ne_eqb _ _ m, ne_eqb _ _ p)

        pub quoted-goes : (left : ℕ) → 0 < left → get_or s (stop + 1) 0 ≡ 44 → stand s left at ≡ stand s (left - 1) (stop + 1 + 1)
        unfolding stand
        quoted-goes zero h p = absurd (omega arith)
        quoted-goes (suc k) h p = rw (q, ← e, ne_eqb _ _ n, ne_eqb _ _ m, eq-eqb _ _ p, one_less k)

  -- the field itself
  pub span-quoted : (stop : ℕ) → opens_at s at ≡ true → stop ≡ quoted_stop s (at + 1) → record { start = at + 1; stop = stop } ≡ span_at s at
  unfolding span_at
  span-quoted stop q e = rw (q, e)

  pub span-plain : (stop : ℕ) → opens_at s at ≡ false → stop ≡ plain_stop s at → record { start = at; stop = stop } ≡ span_at s at
  unfolding span_at
  span-plain stop q e = rw (q, e)
