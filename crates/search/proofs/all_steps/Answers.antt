-- `search::all_steps` meets its contract: step 0, and the steps from where it stands. Assumes nothing.
use mathlib.Core.Path.{◌≡◌, sym, ap, subst, ◌∙◌}
use Prim.Native.Nat.{ℕ, ◌%◌}
use native.Mathlib.Omega.{arith}
use lib.ListN.{length}
use Rattle.listing.proofs.Froms.{sound}
use Rattle.listing.proofs.Laying.{sums-few}
use Rattle.records.specs.Asked.{query_of}
use Rattle.intake.specs.Lending.{lent}
use Rattle.steps.specs.Running.{Ends}
use Rattle.stepping.proofs.StepEnds.{handed-on}
use Rattle.opening.proofs.FirstHeld.{road-fits}
use Rattle.search.proofs.RunningFirst.{needs-as, opens_as, shut-as, begins, ends_as}
use Rattle.search.proofs.all_steps.Goals as goal

pub prepare-requires : goal.prepare-requires
prepare-requires c =
    let p = c.requires in
    let ok = sound _ _ _ _ p.valid.0.tables (omega (arith, p.valid.3)) in
    (ok.small, sums-few ok)

pub read_road-road-requires : goal.read_road-road-requires
read_road-road-requires c =
    let b = lent c.args.vertices.now c.args.walks.now c.args.hops.now c.args.hop_size c.args.held.now c.args.settled.now in
    road-fits b (query_of c.args.q) c.requires.valid.0

pub begin-requires : goal.begin-requires
begin-requires c =
    let b = lent c.args.vertices.now c.args.walks.now c.args.hops.now c.args.hop_size c.prepare.new.held c.args.settled.now in
    let road = c.read_road-road.ensures in
    let row = c.no_records-row.ensures in
    let same : length c.prepare.new.held ≡ length c.args.held.now = c.held-1.given in let all = needs-as c.args.courier b (query_of c.args.q) c.requires.valid.0 _ _ _ road _ row (ap (λ (n : ℕ). n % 16) same ∙ c.requires.valid.2) in record { held_len = all.0; pair_fits = all.1 }

pub steps-requires : goal.steps-requires
steps-requires c =
    let b = lent c.args.vertices.now c.args.walks.now c.args.hops.now c.args.hop_size c.prepare.new.held c.args.settled.now in
    let road = c.read_road-road.ensures in
    let row = c.no_records-row.ensures in
    let h = opens_as c.args.courier b (query_of c.args.q) c.requires.valid.0 _ _ _ road _ row _ _ c.begin.ensures _ c.in_ok-start.was in record {
      valid = (c.requires.valid.0, c.allowed-allowed.ensures, c.requires.valid.1, h.count, c.requires.valid.3);
      lists = c.requires.lists;
      stands = begins c.args.courier b (query_of c.args.q) c.requires.valid.0 _ _ _ _ h c.held-2-1.given;
    }

pub returns-in_err-start : goal.returns-in_err-start
returns-in_err-start c =
    let b = lent c.args.vertices.now c.args.walks.now c.args.hops.now c.args.hop_size c.prepare.new.held c.args.settled.now in
    let road = c.read_road-road.ensures in
    let row = c.no_records-row.ensures in record {
      ends = subst (Ends _ _ _ _ _ _ _ _) (sym (handed-on _ c.from_residual.ensures)) (ends_as _ _ _ _ _ _ _ _ _ _ c.held-1.given (shut-as c.args.courier b (query_of c.args.q) c.requires.valid.0 _ _ _ road _ row _ _ c.begin.ensures _ _ _ _ c.in_err-start.was));
      scratch_after = c.requires.valid.1;
    }
