-- What reading a record answers, in the numbers of RULES 12. Assumes nothing.
use Rattle.std.specs.Prelude.{cond, List, [], ◌∷◌, ℕ, ℤ, pos, Result, Ok, Err}
use Rattle.std.proofs.Math.IntN.{sub_ℕ}
use Rattle.journeys.specs.Bytes.{midnight}
use Rattle.journeys.specs.Tables as tables
use Rattle.journeys.specs.Refusals.{Refusal, walk_ok, hop_ok, vertex_ok}
use Rattle.records.specs.declared.Vertex.{Vertex}
use Rattle.records.specs.declared.Walk.{Walk}
use Rattle.records.specs.declared.Hop.{Hop}

-- the fields of a good record in their order, a walk's wait behind its length, times in signed seconds from midnight; or the refusal of it
pub data Reading : Type 0 where
  good : List ℤ → Reading
  refused : Refusal → Reading

-- each case of what a reader answers: the good record, or the place of a bad one
unfoldable pub told_vertex : Result Vertex ℕ → Reading
told_vertex (Ok x) = good (pos x.first_walk ∷ pos x.first_hop ∷ pos x.departing ∷ pos x.zeros ∷ [])
told_vertex (Err v) = refused (record { number = 6; place = v })

unfoldable pub told_walk : Result Walk ℕ → Reading
told_walk (Ok w) = good (pos w.from ∷ pos w.to ∷ pos w.len.0 ∷ w.wait.0 ∷ pos w.twin ∷ [])
told_walk (Err i) = refused (record { number = 2; place = i })

unfoldable pub told_hop : Result Hop ℕ → Reading
told_hop (Ok h) = good (pos h.from ∷ pos h.to ∷ h.departure.0 ∷ h.arrival.0 ∷ [])
told_hop (Err j) = refused (record { number = 3; place = j })

-- what the rules answer: RULES 12.3, 12.4, 12.6
module _ (N : tables.Tables) where
  unfoldable pub vertex_reading : ℕ → Reading
  vertex_reading v =
      let x = tables.vertex N v in
      cond (vertex_ok N v) (good (pos x.first_walk ∷ pos x.first_hop ∷ pos x.departing ∷ pos x.zeros ∷ [])) (refused (record { number = 6; place = v }))

  unfoldable pub walk_reading : ℕ → Reading
  walk_reading i =
      let w = tables.walk N i in
      cond (walk_ok N i) (good (pos w.from ∷ pos w.to ∷ pos w.len ∷ pos w.wait ∷ pos w.twin ∷ [])) (refused (record { number = 2; place = i }))

  unfoldable pub hop_reading : ℕ → Reading
  hop_reading j =
      let h = tables.hop N j in
      cond (hop_ok N j) (good (pos h.from ∷ pos h.to ∷ sub_ℕ h.departure midnight ∷ sub_ℕ h.arrival midnight ∷ []))
      (refused (record { number = 3; place = j }))
