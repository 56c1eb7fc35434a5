-- The loops over the walks and over the hops to a vertex, step by step, and a walk as the code reads it. Assumes nothing.
use mathlib.Core.Path.{◌≡◌, sym, ap, fun_ext, ◌∙◌}
use mathlib.Core.Logic.{◌⊎◌, inl, inr, ◌≢◌}
use mathlib.Core.Bool.{Bool, true, false}
use mathlib.Core.List.{List}
use Prim.Native.Nat.{ℕ, suc, ◌+◌, ◌-◌, ◌*◌, ◌/◌, ◌≤◌, ◌<◌}
use native.Mathlib.Omega.{arith}
use lib.ListN.{length}
use Rattle.journeys.specs.Bytes.{be32}
use Rattle.journeys.specs.Tables.{Tables, Walk, walk, hop, walk_at, len_of, wait_of, vertex_count, walk_count}
use Rattle.journeys.specs.Query.{Query, allowed, walk_ticks}
use Rattle.journeys.specs.Records.{to, record_at}
use Rattle.journeys.specs.Valid.{Valid}
use Rattle.journeys.proofs.Tests.{split, cond-true, cond-false}
use Rattle.journeys.proofs.Document.{walk-record, hop-record}
use Rattle.journeys.proofs.Decoding.{vertex-count, walk-count, walk_at_lem}
use Rattle.journeys.proofs.Valid.{good-walk}
use Rattle.records.specs.Columns.{records_in, from_at}
use Rattle.worktable.specs.declared.Table.{Table}
use Rattle.boarding.specs.Rides.{Mode}
use Rattle.marks.specs.Marks.{bit}
use Rattle.improving.specs.Figures.{Ready, figures, improved_at}
use Rattle.marking.specs.Setting.{tables, query, Judged}
use Rattle.marking.specs.Carried.{offered_by}
use Rattle.marking.specs.declared.Asked.{Asked}
use Rattle.offering.specs.Offers.{passed, taken_at, held_back, Passes}
use Rattle.offering.proofs.Offered.{passed_none, passed-skip, walk-brings, not-marked, is-marked}

-- ---- a walk of judged tables
module _ {v w h : List ℕ} {a : Asked} (ok : Judged v w h a) where
  pub vertex-low : {x : ℕ} → x < vertex_count (tables v w h a) → x < length v / 12
  vertex-low l = omega (arith, vertex-count a.size v w h)

  module _ (i : ℕ) (l : i < walk_count (tables v w h a)) where
    pub walk_low : i < records_in 16 w
    walk_low = omega (arith, walk-count a.size v w h)

    walk_is : walk (tables v w h a) i ≡ walk_at w i
    walk_is = walk_at_lem a.size v w h i walk_low

    pub from_is : from_at 16 w i ≡ (walk (tables v w h a) i).from
    unfolding walk_at
    from_is = sym (ap (λ (x : Walk). x.from) walk_is)

    pub from_low : {r : ℕ} → r ≡ from_at 16 w i → r < 65536
    from_low e = omega (arith, e, from_is, (good-walk (tables v w h a) ok.valid.tables i l).from_low, ok.valid.tables.vertices_few)

    pub way-is : {b r : ℕ} → b ≡ be32 w (16 * i + 8) → r ≡ len_of b + wait_of b * a.query.speed → r ≡ walk_ticks (query a) (walk (tables v w h a) i)
    unfolding walk_at
    way-is {b} {r} e q = q ∙ ap (λ (x : ℕ). len_of x + wait_of x * a.query.speed) e ∙ ap (λ (x : Walk). walk_ticks (query a) x) (sym walk_is)

-- ---- one offer
module _ (D : ℕ) (set : ℕ → Bool) (w o : ℕ) (f : ℕ → ℕ) where
  pub taken_not : set w ≡ true → f ≡ taken_at D set w o f
  taken_not e = fun_ext (λ u. sym (cond-true (f u) (improved_at D w o f u) e))

  pub taken_is : set w ≡ false → {D' w' o' : ℕ} → D' ≡ D → w' ≡ w → o' ≡ o → improved_at D' w' o' f ≡ taken_at D set w o f
  taken_is e {D'} {w'} {o'} p q r =
      fun_ext (λ u. ap (λ (x : ℕ). improved_at x w' o' f u) p ∙ ap (λ (x : ℕ). improved_at D x o' f u) q ∙ ap (λ (x : ℕ). improved_at D w x f u) r ∙ sym (cond-false (f u) (improved_at D w o f u) e))

pub back-not : (t : Bool) (g f : ℕ → ℕ) → t ≡ false → f ≡ held_back t g f
back-not t g f e = fun_ext (λ u. sym (cond-false (g u) (f u) e))

pub back_is : (t : Bool) (g f : ℕ → ℕ) → t ≡ true → g ≡ held_back t g f
back_is t g f e = fun_ext (λ u. sym (cond-true (g u) (f u) e))

-- ---- one record after another
module _ (N : Tables) (Q : Query) (M : Mode) (ok : Valid N Q) (set marks : List ℕ) (x d : ℕ) where
  pub passes_same : {n : ℕ} {t : Table} {b : List ℕ} → Ready t b → Passes N Q M set marks x d n n t t b b
  passes_same k = record { ready = k; figures_are = λ f e. e }

  pub passes-skip : {n k m : ℕ} {t r : Table} {b c : List ℕ} → Passes N Q M set marks x d n k t r b c → k ≤ m → ((e : ℕ) → k ≤ e → e < m → to (record_at N e) ≢ x) → Passes N Q M set marks x d n m t r b c
  passes-skip {n} {k} {m} p l h = record { ready = p.ready; figures_are = λ f e. p.figures_are f e ∙ passed-skip N Q M ok (bit set) (bit marks) x d k m l h f }

  pub passes_on : {n k m : ℕ} {t q r : Table} {b c g : List ℕ} → Passes N Q M set marks x d n k t q b c → Passes N Q M set marks x d k m q r c g → Passes N Q M set marks x d n m t r b g
  passes_on p s = record { ready = s.ready; figures_are = λ f e. s.figures_are f (p.figures_are f e) }

  -- all records, from the first on
  pub passes-all : {t r : Table} {b c : List ℕ} {m : ℕ} → Passes N Q M set marks x d 0 m t r b c → figures r c ≡ passed N Q M (bit set) (bit marks) x d m (figures t b)
  passes-all {t} {r} {b} p = p.figures_are (figures t b) (passed_none N Q M ok (bit set) (bit marks) x d (figures t b))

  pub passes-walk : {n : ℕ} (i : ℕ) {t q r : Table} {b c g : List ℕ} → Passes N Q M set marks x d n i t q b c → i < walk_count N → (walk N i).to ≡ x → Ready r g
      → figures r g ≡ taken_at (allowed Q) (bit set) (walk N i).from (d + walk_ticks Q (walk N i)) (figures q c) → Passes N Q M set marks x d n (i + 1) t r b g
  passes-walk i p l e k s =
      record {
        ready = k;
        figures_are = λ f z.
            s
            ∙ ap (taken_at (allowed Q) (bit set) (walk N i).from (d + walk_ticks Q (walk N i))) (p.figures_are f z)
            ∙ walk-brings N Q M ok (bit set) (bit marks) x d i l e f
            ∙ ap (λ (m : ℕ). passed N Q M (bit set) (bit marks) x d m f) (let q : suc i ≡ i + 1 = omega arith in q);
      }

  pub passes-hop : {n : ℕ} (j : ℕ) {t q r : Table} {b c g : List ℕ} → Passes N Q M set marks x d n (walk_count N + j) t q b c → (hop N j).to ≡ x → bit set x ≡ true → Ready r g
      → figures r g ≡ held_back (bit marks j) (offered_by N Q M (bit set) j (figures q c)) (figures q c) → Passes N Q M set marks x d n (walk_count N + (j + 1)) t r b g
  passes-hop {n} j {t} {q} {r} {b} {c} {g} p e s k z =
      record {
        ready = k;
        figures_are = λ f y.
            z
            ∙ ap (λ (h : ℕ → ℕ). held_back (bit marks j) (offered_by N Q M (bit set) j h) h) (p.figures_are f y)
            ∙ go f (split (bit marks j))
            ∙ ap (λ (m : ℕ). passed N Q M (bit set) (bit marks) x d m f) (let o : suc (walk_count N + j) ≡ walk_count N + (j + 1) = omega arith in o);
      }
    where
      go : (f : ℕ → ℕ) → (bit marks j ≡ true) ⊎ (bit marks j ≡ false)
          → held_back (bit marks j) (offered_by N Q M (bit set) j (passed N Q M (bit set) (bit marks) x d (walk_count N + j) f)) (passed N Q M (bit set) (bit marks) x d (walk_count N + j) f) ≡ passed N Q M (bit set) (bit marks) x d (suc (walk_count N + j)) f
      go f (inl m) = sym (back_is (bit marks j) (offered_by N Q M (bit set) j (passed N Q M (bit set) (bit marks) x d (walk_count N + j) f)) (passed N Q M (bit set) (bit marks) x d (walk_count N + j) f) m) ∙ is-marked N Q M ok (bit set) (bit marks) x d j e s m f
      go f (inr m) = sym (back-not (bit marks j) (offered_by N Q M (bit set) j (passed N Q M (bit set) (bit marks) x d (walk_count N + j) f)) (passed N Q M (bit set) (bit marks) x d (walk_count N + j) f) m) ∙ not-marked N Q M ok (bit set) (bit marks) x d j e m f

  -- no walk and no hop of a stretch leads to x
  pub no-walks : (k m : ℕ) → m ≤ walk_count N → ((i : ℕ) → k ≤ i → i < m → (walk N i).to ≢ x) → (r : ℕ) → k ≤ r → r < m → to (record_at N r) ≢ x
  no-walks k m l h r a b e = h r a b (sym (ap to (walk-record N r (omega arith))) ∙ e)

  pub no-hops : (k m : ℕ) → ((j : ℕ) → k ≤ j → j < m → (hop N j).to ≢ x) → (r : ℕ) → walk_count N + k ≤ r → r < walk_count N + m → to (record_at N r) ≢ x
  no-hops k m h r a b e =
      let q : walk_count N + (r - walk_count N) ≡ r = omega arith in
      h (r - walk_count N) (omega arith) (omega arith) (sym (ap to (hop-record N (r - walk_count N))) ∙ ap (λ (y : ℕ). to (record_at N y)) q ∙ e)
