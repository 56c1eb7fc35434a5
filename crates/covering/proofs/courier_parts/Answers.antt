-- `courier_parts`: what is refused leaves the buffer as it was; the rest is listed entry by entry. Assumes nothing.
use borrow.Author.Rules.{rules}
use native.Mathlib.Omega.{arith}
use mathlib.Core.Path.{refl, ap, ◌∙◌}
use Rattle.std.proofs.lemmas.Result.{err_from_is_err_and}
use Rattle.records.specs.Asked.{query_of}
use Rattle.words.proofs.Chains.{kept, refuses, passes}
use Rattle.covering.specs.Covering.{entry_ahead}
use Rattle.covering.specs.Lending.{courier_parts_lent, parts_answer_of, count_in}
use Rattle.parts.specs.Listing.{first_ahead}
use Rattle.covering.proofs.Accepting.{courier-refused, courier-road, courier-query, courier-ready, courier-ends, courier-as}
use Rattle.covering.proofs.Entries.{room-kept}
use Rattle.covering.proofs.courier_parts.Goals as goal

pub returns-in_err-courier_fault : goal.returns-in_err-courier_fault
returns-in_err-courier_fault c =
    let b = courier_parts_lent c.args.vertices.now c.args.walks.now c.args.hops.now c.args.hop_size c.args.records.now c.args.list.now c.args.parts.now in
    let p = err_from_is_err_and c.from_residual.result c.from_residual.ensures.1 in
    courier-refused b (query_of c.args.q) c.from_residual.result (kept _ c.in_err-courier_fault.was c.from_residual.ensures ∙ c.courier_fault.ensures) (ap count_in p.1) (refuses c.in_err-courier_fault.was c.courier_fault.ensures)

pub read_road-road-requires : goal.read_road-road-requires
read_road-road-requires c =
    let b = courier_parts_lent c.args.vertices.now c.args.walks.now c.args.hops.now c.args.hop_size c.args.records.now c.args.list.now c.args.parts.now in
    courier-road b (query_of c.args.q) (passes c.in_ok-courier_fault.was c.courier_fault.ensures)

pub allowed-allowed-requires : goal.allowed-allowed-requires
allowed-allowed-requires c =
    let b = courier_parts_lent c.args.vertices.now c.args.walks.now c.args.hops.now c.args.hop_size c.args.records.now c.args.list.now c.args.parts.now in
    courier-query b (query_of c.args.q) (passes c.in_ok-courier_fault.was c.courier_fault.ensures)

pub cover-covered-requires : goal.cover-covered-requires
cover-covered-requires c =
    let a = c.args in
    let b = courier_parts_lent a.vertices.now a.walks.now a.hops.now a.hop_size a.records.now a.list.now a.parts.now in
    let R = courier-ready b (query_of a.q) (passes c.in_ok-courier_fault.was c.courier_fault.ensures) c.read_road-road.result c.read_road-road.ensures c.allowed-allowed.result.0 c.allowed-allowed.ensures in
    record {
      begins = λ p. let near = R.road in search rules;
      room = λ p p' r x. room-kept 0 (first_ahead c.read_road-road.result c.allowed-allowed.result.0) p.now p'.now r (omega arith) (search rules);
      callable = λ p count i h l. let s = R.there refl in let d = R.distance i l in search rules;
      keeps = λ p p' count i r h l x. room-kept count (entry_ahead a.hop_size a.walks.now a.hops.now a.records.now a.list.now c.read_road-road.result c.allowed-allowed.result.0 i) p.now p'.now r h (search rules);
    }

pub finish-requires : goal.finish-requires
finish-requires c =
    let a = c.args in
    let b = courier_parts_lent a.vertices.now a.walks.now a.hops.now a.hop_size a.records.now a.list.now a.parts.now in
    courier-ends b (query_of a.q) (passes c.in_ok-courier_fault.was c.courier_fault.ensures) c.read_road-road.result c.read_road-road.ensures c.allowed-allowed.result.0 c.allowed-allowed.ensures _ c.cover-covered.result
    (c.cover-covered.ensures (first_ahead c.read_road-road.result c.allowed-allowed.result.0) (entry_ahead a.hop_size a.walks.now a.hops.now a.records.now a.list.now c.read_road-road.result c.allowed-allowed.result.0) (λ p p' r x. search rules)
    (λ p p' count i r l x. search rules))

pub returns : goal.returns
returns c =
    let a = c.args in
    let b = courier_parts_lent a.vertices.now a.walks.now a.hops.now a.hop_size a.records.now a.list.now a.parts.now in
    courier-as b (query_of a.q) (passes c.in_ok-courier_fault.was c.courier_fault.ensures) c.read_road-road.result c.read_road-road.ensures c.allowed-allowed.result.0 c.allowed-allowed.ensures _ c.cover-covered.result
    (c.cover-covered.ensures (first_ahead c.read_road-road.result c.allowed-allowed.result.0) (entry_ahead a.hop_size a.walks.now a.hops.now a.records.now a.list.now c.read_road-road.result c.allowed-allowed.result.0) (λ p p' r x. search rules)
    (λ p p' count i r l x. search rules))
    (parts_answer_of c.finish.result c.finish.new.parts) c.finish.ensures
