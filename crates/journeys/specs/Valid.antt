-- Tables and a query of which nothing is refused, as a contract asks for them. Assumes nothing.
use Rattle.std.specs.Prelude.{◌≡◌, true, ℕ, ◌+◌, ◌≤◌, ◌<◌}
use Rattle.journeys.specs.Bytes.{midnight}
use Rattle.journeys.specs.Tables.{Tables, vertex_count, walk_count, hop_count}
use Rattle.journeys.specs.Query.{Query, asked}
use Rattle.journeys.specs.Refusals.{walk_ok, hop_ok, walk_ascends, hop_ascends, vertex_ok}

pub record ValidTables (N : Tables) : Type 0 where
  pub vertices_some : 1 ≤ vertex_count N
  pub vertices_few : vertex_count N ≤ 65536
  pub walks_few : walk_count N ≤ 262144
  pub hops_few : hop_count N ≤ 262144
  pub walks : (i : ℕ) → i < walk_count N → walk_ok N i ≡ true
  pub hops : (j : ℕ) → j < hop_count N → hop_ok N j ≡ true
  pub walks_ascend : (i : ℕ) → i < walk_count N → walk_ascends N i ≡ true
  pub hops_ascend : (j : ℕ) → j < hop_count N → hop_ascends N j ≡ true
  pub vertices : (v : ℕ) → v < vertex_count N → vertex_ok N v ≡ true

pub record ValidQuery (N : Tables) (Q : Query) : Type 0 where
  pub walk_low : Q.walk < walk_count N
  pub offset_low : Q.offset ≤ (asked N Q).len
  pub arrival_low : midnight ≤ Q.arrival
  pub arrival_high : Q.arrival ≤ midnight + 172800
  pub duration_low : 1 ≤ Q.duration
  pub duration_high : Q.duration ≤ 86400
  pub speed_low : 1 ≤ Q.speed
  pub speed_high : Q.speed ≤ 100

-- both
pub record Valid (N : Tables) (Q : Query) : Type 0 where
  pub tables : ValidTables N
  pub query : ValidQuery N Q
