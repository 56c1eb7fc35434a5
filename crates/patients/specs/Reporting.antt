-- A report that can take one arrival more. Assumes nothing.
use Rattle.std.specs.Prelude.{◌≡◌, List, ℕ, ◌+◌, ◌*◌, ◌≤◌, ◌<◌, length}
use Rattle.evening.specs.Patients.{patients_of, figures}

-- m vertices, each with a count; the report is figures of 4 bytes, at least one for each vertex, and no arrival was counted more than 96 times
pub record CanReport (m : ℕ) (patients report : List ℕ) : Type 0 where
  pub counted : (v : ℕ) → v < m → (4 * v + 4 ≤ length patients) × (patients_of patients v ≤ 65535)
  pub figure : ℕ → ℕ
  pub places : ℕ
  pub are : report ≡ figures figure places
  pub enough : m ≤ places
  pub low : (v : ℕ) → v < m → figure v ≤ 96
