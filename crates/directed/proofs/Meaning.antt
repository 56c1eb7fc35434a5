-- What a row is in each direction: the row of `passing`, or records of the courier's network. Assumes nothing.
use mathlib.Core.Path.{◌≡◌, sym, ap, ◌∙◌}
use mathlib.Core.Bool.{Bool, true, false, cond}
use mathlib.Core.Logic.{⊎_elim}
use mathlib.Core.List.{List}
use Prim.Native.Nat.{ℕ, ◌+◌, ◌-◌, ◌/◌, ◌<◌, ◌≤◌}
use native.Mathlib.Omega.{arith}
use lib.ListN.{length}
use borrow.Author.Tests.{lt-ltb, le-ltb}
use Rattle.journeys.specs.Bytes.{clocked}
use Rattle.journeys.specs.Tables.{Tables, vertex_at, tables_of, walk_count}
use Rattle.journeys.specs.Query.{Query}
use Rattle.journeys.specs.Records.{Record, walked, ridden, record_at}
use Rattle.journeys.specs.Records as records
use Rattle.journeys.specs.CourierRecords as courier
use Rattle.journeys.proofs.Tests.{cond-true, cond-false, le-or-lt}
use Rattle.journeys.proofs.Decoding.{walk-count, walk_at_lem, hop-at}
use Rattle.journeys.proofs.Document.{walk-record, hop-record}
use Rattle.passing.specs.Row.{asking, passes, from_of, offer_of, row_of}
use Rattle.directed.specs.Directed.{number_of, listed_of, listed_to, listed_offer, near_of, brings_of, arrive_at, row_in, Listed}
use Rattle.directed.specs.declared.Directed.{Directed}

module _ (v w h l : List ℕ) (a : Directed) where
  -- a row that is not the courier's is the row of the records that arrive, whatever the stretch
  pub same_row : a.courier ≡ false → row_in v w h l a ≡ row_of v w h a.arriving
  same_row e =
      ap (λ (b : Bool). record {
        allowed = a.arriving.allowed.0;
        from = λ j. cond b (listed_to w h l a j) (from_of w h a.arriving j);
        offer = λ j. cond b (listed_offer w h l a j) (offer_of w h a.arriving j);
        departing = λ u. cond b (arrive_at v a u) (vertex_at v u).departing;
      }) e

  abbrev pub N : Tables
  N = tables_of a.arriving.size v w h

  module _ (on : Listed w h l a) (all : a.ways ≡ length w / 16) (j : ℕ) (low : j < passes a.arriving) where
    -- record j of the courier's row is the record of the tables that has the number at place j
    pub listed-is : listed_of w h l a j ≡ record_at N (number_of l j)
    unfolding listed_of
    listed-is =
        ⊎_elim
        (λ (k : a.ways ≤ number_of l j).
        let e : walk_count N + (number_of l j - a.ways) ≡ number_of l j = omega (arith, walk-count a.arriving.size v w h, all) in
        cond-false _ _ (le-ltb (number_of l j) a.ways k)
        ∙ ap ridden (sym (hop-at a.arriving.size v w h (number_of l j - a.ways) (on.hops j low k)))
        ∙ sym (hop-record N (number_of l j - a.ways))
        ∙ ap (record_at N) e)
        (λ (k : number_of l j < a.ways).
        cond-true _ _ (lt-ltb (number_of l j) a.ways k)
        ∙ ap walked (sym (walk_at_lem a.arriving.size v w h (number_of l j) (omega (arith, all))))
        ∙ sym (walk-record N (number_of l j) (omega (arith, walk-count a.arriving.size v w h, all))))
        (le-or-lt a.ways (number_of l j))

    -- so it leads to where the courier's network has it lead, whatever is asked
    pub courier-near : (Q : Query) → a.courier ≡ true → near_of w h l a j ≡ (courier.network N Q).from (number_of l j)
    courier-near Q e = cond-true (listed_to w h l a j) (from_of w h a.arriving j) e ∙ ap records.to listed-is

    -- and brings what that offers
    pub courier-brings : a.courier ≡ true
        → brings_of w h l a j ≡ (courier.network N (asking (clocked a.arriving.arrival.0) a.arriving.speed)).offer (number_of l j) a.arriving.distance.0
    courier-brings e =
        cond-true (listed_offer w h l a j) (offer_of w h a.arriving j) e
        ∙ ap (λ (x : Record). courier.offer (asking (clocked a.arriving.arrival.0) a.arriving.speed) x a.arriving.distance.0) listed-is
