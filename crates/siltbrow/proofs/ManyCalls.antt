-- Each of many queries is a call of `siltbrow_run` of its own: what is proved of such a call holds for each of them. Assumes nothing.
use mathlib.Core.Path.{◌≡◌, refl, sym, ap, ap₂, subst, ◌∙◌}
use mathlib.Core.List.{List, [], ◌∷◌, ◌++◌}
use Prim.Native.Nat.{ℕ, zero, suc, ◌+◌, ◌*◌, ◌<◌, ◌≤◌}
use native.Mathlib.Omega.{arith}
use native.Mathlib.Nat.{mul-suc}
use lib.ListN.{length, take, drop, replicate, length-replicate}
use lib.Seq.{take_at, drop_at, drop-drop, drop-append-add}
use Rattle.journeys.specs.Bytes.{word}
use Rattle.intake.specs.Lending.{lent}
use Rattle.calls.specs.CallBytes.{answer_bytes}
use Rattle.queries.specs.InTurn.{Ask, InTurn}
use Rattle.queries.specs.Single.{Single}
use Rattle.queries.proofs.Determined.{in-turn-each}
use Rattle.siltbrow.specs.Ran.{Ran}
use Rattle.siltbrow.specs.Call.{Call, Completed}
use Rattle.siltbrow.specs.ManyCalls.{Alone}

-- a single run as a call leaves it
pub alone : (v w h : List ℕ) (size : ℕ) (held share : List ℕ) (q : Ask) (held' share' answer : List ℕ) → Single v w h size held share q held' share' answer → Alone v w h size held share q held' share' answer
alone v w h size held share q held' share' answer x slice e = record { untouched = λ n. absurd (n e); answered = λ _. (refl, x) }

pub all-alone : (v w h : List ℕ) (hop size : ℕ) (asks : List Ask) (held settled held' settled' answers : List ℕ)
    → InTurn (Single v w h hop) size asks held settled held' settled' answers → InTurn (Alone v w h hop) size asks held settled held' settled' answers
all-alone v w h hop size = in-turn-each (Single v w h hop) (Alone v w h hop) size (alone v w h hop)

-- an answer slice, and what it holds after a call
blank : List ℕ
blank = replicate 24 0

blank-long : length blank ≡ 24
unfolding blank
blank-long = length-replicate {A = ℕ} 24 0

answer-long : (v w h : List ℕ) (hop : ℕ) (held share : List ℕ) (q : Ask) (held' share' answer : List ℕ) → Alone v w h hop held share q held' share' answer → length answer ≡ 24
unfolding word
answer-long v w h hop held share q held' share' answer x = let f = (x blank blank-long).answered blank-long in ap length f.1.4

module _ (v w h : List ℕ) (hop size : ℕ) where
  -- query i of those asked is a completed call: with that query and limit, with the share i, and its answer stands in the bytes i
  pub record IsCall (asks : List Ask) (settled answers : List ℕ) (i : ℕ) (q : Ask) : Type 0 where
    pub call : Call
    pub completed : Completed call
    pub query : (call.query ≡ q.query) × (call.limit ≡ q.limit)
    pub tables : (call.lent.vertices ≡ v) × (call.lent.walks ≡ w) × (call.lent.hops ≡ h) × (call.lent.hop_size ≡ hop)
    pub share : call.lent.settled ≡ take size (drop (size * i) settled)
    pub answer : call.answer ≡ take 24 (drop (24 * i) answers)

  -- query i
  abbrev pub Nth : List Ask → ℕ → Ask → Type 0
  Nth [] i q = ⊥
  Nth (x ∷ asks) zero q = x ≡ q
  Nth (x ∷ asks) (suc i) q = Nth asks i q

  pub each-is-call : (asks : List Ask) (held settled held' settled' answers : List ℕ) → InTurn (Alone v w h hop) size asks held settled held' settled' answers
      → (i : ℕ) (q : Ask) → Nth asks i q → IsCall asks settled answers i q
  unfolding InTurn
  each-is-call [] held settled held' settled' answers x i q e = absurd e
  each-is-call (p ∷ asks) held settled held' settled' answers x zero q e =
      record {
        call =
            record {
              lent = lent v w h hop held (take size settled);
              query = p.query;
              limit = p.limit;
              slice = blank;
              held = x.0;
              settled = x.1;
              answer = x.2;
              returned = 0;
            };
        completed = (x.5 blank blank-long, blank-long);
        query = (ap (λ (y : Ask). y.query) e, ap (λ (y : Ask). y.limit) e);
        tables = (refl, refl, refl, refl);
        share = let z : 0 ≡ size * 0 = omega arith in ap (λ (k : ℕ). take size (drop k settled)) z;
        answer =
            sym (ap (take 24) x.8 ∙ take_at x.2 x.4 24 (answer-long v w h hop held (take size settled) p x.0 x.1 x.2 x.5));
      }
  each-is-call (p ∷ asks) held settled held' settled' answers x (suc i) q e =
      let y = each-is-call asks x.0 (drop size settled) held' x.3 x.4 x.6 i q e in
      let long = answer-long v w h hop held (take size settled) p x.0 x.1 x.2 x.5 in
      let a : size + size * i ≡ size * suc i = omega (arith, mul-suc size i) in
      let b : 24 * suc i ≡ length x.2 + 24 * i = omega (arith, long) in
      record {
        call = y.call;
        completed = y.completed;
        query = y.query;
        tables = y.tables;
        share = y.share ∙ ap (take size) (drop-drop (size * i) size settled ∙ ap (λ (k : ℕ). drop k settled) a);
        answer = y.answer ∙ ap (take 24) (sym (ap₂ (λ (k : ℕ) (l : List ℕ). drop k l) b x.8 ∙ drop-append-add x.2 x.4 (24 * i)));
      }
