-- `audit::table_faults` meets its contract: the records before i are good, `order` is the first of them out of order, and `alone` of them have no twin. Assumes nothing.
use mathlib.Core.Path.{◌≡◌, refl, sym, ap, ap₂, ◌∙◌}
use mathlib.Core.Logic.{◌≢◌}
use mathlib.Core.Bool.{Bool}
use Prim.Native.Nat.{◌+◌, ◌-◌}
use lib.Dec.{leb}
use lib.ListN.{length}
use Rattle.journeys.specs.Counting.{one, count}
use Rattle.journeys.specs.Refusals.{Refusal, unless, or_else, first_bad}
use Rattle.journeys.proofs.Refusals.{from_first, from-none}
use Rattle.journeys.proofs.Counting.{is_one, is_zero, count_most}
use Rattle.words.specs.Told.{number_of}
use Rattle.words.proofs.Told.{named}
use Rattle.words.proofs.Chains.{kept, refuses, passes}
use Rattle.std.proofs.lemmas.Result.{IfOk-from_err}
use Rattle.records.proofs.Sizes.{as-small}
use Rattle.records.specs.Columns.{records_in, to_at, ascends_at}
use Rattle.quick.specs.Claims.{alone_in}
use Rattle.quick.proofs.Sifted.{count-zero, count_next}
use Rattle.audit.specs.Judging.{record_fault}
use Rattle.audit.proofs.Scan.{none_more, bad-none, bad_more}
use Rattle.audit.proofs.InOrder.{ascends-is}
use native.Mathlib.Omega.{arith}
use Rattle.audit.proofs.table_faults.Invariants.{has_no_twin}
use Rattle.audit.proofs.table_faults.Goals as goal
use Rattle.audit.proofs.table_faults.Goals.{After-row_known-1, then-no_twin, else-no_twin}

-- what is added where the two arms meet makes the count of one record more
counts : (c : After-row_known-1) →
    let loop = c.loop-i in
    let a = c.args in
    loop.alone + c.if-no_twin.alone ≡ count (has_no_twin a.table.now) (loop.i + 1)
counts c =
    let loop = c.loop-i in
    let a = c.args in
    let added : c.if-no_twin.alone ≡ one c.alone-no_twin.result =
    elim c.if-no_twin.branch [ then-no_twin w ↦ w.alone-is ∙ sym (is_one w.if-no_twin.true) | else-no_twin w ↦ w.alone-is ∙ sym (is_zero w.if-no_twin.false) ] in
    omega (arith, loop.invariant.6, added, ap one c.alone-no_twin.ensures, count_next (has_no_twin a.table.now) loop.i)

pub loop-i-init : goal.loop-i-init
loop-i-init c =
    let a = c.args in
    let t = a.table.now in (
      omega arith,
      omega arith,
      λ h. refl,
      λ h. absurd (omega arith),
      λ k l. absurd (omega arith),
      sym (bad-none (number_of a.reason) (ascends_at a.size t)),
      sym (count-zero (has_no_twin t)),
    )

pub record_fault-requires : goal.record_fault-requires
record_fault-requires c = record {
  i_bound = (omega arith, c.requires.table_bound);
  by_index = c.loop-i.invariant.4;
  le_size = c.requires.le_size;
}

pub returns-in_err-record_fault : goal.returns-in_err-record_fault
returns-in_err-record_fault c =
    let loop = c.loop-i in
    let a = c.args in
    let f = record_fault a.kind a.size a.vertices.now a.table.now in
    let some : (f loop.i).number ≢ 0 = refuses c.in_err-record_fault.was c.record_fault.ensures in
    let given = c.from_residual.ensures in record {
      bad_value = kept _ c.in_err-record_fault.was given ∙ c.record_fault.ensures ∙ sym (from_first f (records_in a.size a.table.now) 0 loop.i (omega arith) (omega arith) some (λ j l m. loop.invariant.4 j m));
      order_value = IfOk-from_err _ _ given.0;
      alone_value = IfOk-from_err _ _ given.0;
    }

pub alone-no_twin-requires : goal.alone-no_twin-requires
alone-no_twin-requires c =
    let loop = c.loop-i in
    as-small c.args.size loop.i (length c.args.table.now) c.requires.le_size.0 (omega arith)

pub overflow_add-alone : goal.overflow_add-alone
overflow_add-alone c =
    let loop = c.loop-i in
    omega (arith, counts (goal.at.overflow_add-alone c).After-row_known-1, count_most (has_no_twin c.args.table.now) (loop.i + 1), loop.invariant.0, loop.invariant.1, c.requires.table_bound)

pub loop-i-preserved : goal.loop-i-preserved
loop-i-preserved c =
    let loop = c.loop-i in
    let a = c.args in
    let t = a.table.now in
    let to = c.to_at-to.ensures in
    let good = passes c.in_ok-record_fault.was c.record_fault.ensures in
    let up = ap (leb loop.before) to ∙ ascends-is a.size t loop.i loop.before loop.invariant.2 loop.invariant.3 in
    let e : loop.i + 1 - 1 ≡ loop.i = omega arith in (
      omega arith,
      loop.invariant.1,
      λ h. absurd (omega arith),
      λ h. to ∙ ap (to_at a.size t) (sym e),
      none_more (record_fault a.kind a.size a.vertices.now t) loop.i loop.invariant.4 good,
      c.order_fault-order.ensures
          ∙ ap₂ (λ (x : Refusal) (b : Bool). or_else x (unless b (number_of a.reason) loop.i)) loop.invariant.5 up
          ∙ sym (bad_more (number_of a.reason) (ascends_at a.size t) loop.i (omega (arith, named a.reason))),
      counts (goal.at.loop-i-preserved c).After-row_known-1,
    )

pub returns : goal.returns
unfolding alone_in
returns c =
    let loop = c.loop-i in
    let a = c.args in
    let e : loop.i ≡ records_in a.size a.table.now = omega arith in record {
      bad_value = sym (from-none (record_fault a.kind a.size a.vertices.now a.table.now) (records_in a.size a.table.now) 0 (λ k l m. loop.invariant.4 k (omega arith)));
      order_value = loop.invariant.5 ∙ ap (first_bad (number_of a.reason) (ascends_at a.size a.table.now)) e;
      alone_value = loop.invariant.6 ∙ ap (count (has_no_twin a.table.now)) e;
    }
