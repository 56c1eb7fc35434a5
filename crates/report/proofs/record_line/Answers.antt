-- `record_line` meets its contract. The invariant: the first j fields are written, each of at most 11 bytes. Assumes nothing.
use Prim.Native.Nat.{ℕ, ◌+◌, ◌-◌}
use Rattle.report.specs.Text.{field, fields_at}
use Rattle.copying.proofs.Copied.{nothing}
use Rattle.report.proofs.LineLaws.{as-text, line-is, no_fields, more-fields}
use native.Mathlib.Omega.{arith}
use mathlib.Core.Path.{◌≡◌, refl, ap, ◌∙◌}
use mathlib.Core.List.{◌++◌}
use Rattle.copying.proofs.Copied.{both}
use Rattle.report.proofs.record_line.Goals as goal

pub loop-j-init : goal.loop-j-init
loop-j-init c =
    let a = c.args in
    (omega arith, refl, omega arith, as-text (no_fields a.table.now a.from) (nothing _ _))

pub loop-j-preserved : goal.loop-j-preserved
loop-j-preserved c =
    let L = c.loop-j in
    let a = c.args in
    let p = c.put-to in
    let w = c.word_at-x in
    let f = c.field-to in (
      omega arith,
      f.auto.out ∙ L.invariant.1,
      omega (arith, f.ensures.upper_bound, L.invariant.2),
      as-text (ap (λ (x : ℕ). fields_at a.table.now a.from L.j ++ field x) w.ensures ∙ more-fields a.table.now a.from L.j)
          (both (omega (arith, L.invariant.2, p.ensures.next, p.auto.out, c.requires)) L.invariant.3 f.ensures.wrote),
    )

pub returns : goal.returns
returns c =
    let L = c.loop-j in
    let a = c.args in
    let p = c.put-to in
    let n = c.newline in
    let e : L.j ≡ a.n = omega (arith, L.invariant.0, c.loop-j-test.false) in
    let t = a.table.now in
    let f = as-text (ap (λ (k : ℕ). fields_at t a.from k) e) L.invariant.3 in
    let b = both (omega (arith, p.ensures.next, c.requires)) p.ensures f in record {
      wrote = as-text (line-is a.label.now (fields_at t a.from a.n)) (both (omega (arith, L.invariant.2, e, p.ensures.next, c.requires)) b n.ensures);
      upper_bound = omega (arith, L.invariant.2, e, p.ensures.next, c.requires, n.ensures.next);
    }
