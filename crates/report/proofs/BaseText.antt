-- The rules read off the definitions: the whole text of the base job, and other lines. Assumes nothing.
use mathlib.Core.Path.{◌≡◌, refl}
use mathlib.Core.List.{List, [], ◌∷◌, ◌++◌, flat_map}
use Prim.Native.Nat.{ℕ}
use Rattle.journeys.specs.Counting.{none, joined}
use Rattle.journeys.specs.Bytes.{be32, word}
use Rattle.journeys.specs.OneRun.{OneAnswer}
use Rattle.report.specs.Text.{decimal_in, decimal, field, line, fields_at, lines, lists, given, printed, fault}

text : OneAnswer → List ℕ
unfolding word flat_map printed lists lines fields_at joined be32 line field decimal decimal_in
text a = printed a

pub base-text :
    printed
    (given (record { refusal = 0; place = 0; settled = 4; parts = 6; held = 1; finished = 1 }) (flat_map word (1 ∷ 500 ∷ 0 ∷ 1500 ∷ 3 ∷ 2400 ∷ 2 ∷ 3000 ∷ []))
    (flat_map word (1 ∷ 0 ∷ 1500 ∷ 0 ∷ 0 ∷ 500 ∷ 1 ∷ 1500 ∷ 2000 ∷ 2 ∷ 0 ∷ 2500 ∷ 0 ∷ 500 ∷ 2000 ∷ 4 ∷ 300 ∷ 900 ∷ []))
    (flat_map word (3 ∷ 2400 ∷ 1 ∷ 1 ∷ [])))
    ≡ (97 ∷ 110 ∷ 115 ∷ 119 ∷ 101 ∷ 114 ∷ 32 ∷ 48 ∷ 32 ∷ 48 ∷ 10 ∷ [])
    ++ (118 ∷ 101 ∷ 114 ∷ 116 ∷ 101 ∷ 120 ∷ 32 ∷ 49 ∷ 32 ∷ 53 ∷ 48 ∷ 48 ∷ 10 ∷ [])
    ++ (118 ∷ 101 ∷ 114 ∷ 116 ∷ 101 ∷ 120 ∷ 32 ∷ 48 ∷ 32 ∷ 49 ∷ 53 ∷ 48 ∷ 48 ∷ 10 ∷ [])
    ++ (118 ∷ 101 ∷ 114 ∷ 116 ∷ 101 ∷ 120 ∷ 32 ∷ 51 ∷ 32 ∷ 50 ∷ 52 ∷ 48 ∷ 48 ∷ 10 ∷ [])
    ++ (118 ∷ 101 ∷ 114 ∷ 116 ∷ 101 ∷ 120 ∷ 32 ∷ 50 ∷ 32 ∷ 51 ∷ 48 ∷ 48 ∷ 48 ∷ 10 ∷ [])
    ++ (112 ∷ 97 ∷ 114 ∷ 116 ∷ 32 ∷ 49 ∷ 32 ∷ 48 ∷ 32 ∷ 49 ∷ 53 ∷ 48 ∷ 48 ∷ 10 ∷ [])
    ++ (112 ∷ 97 ∷ 114 ∷ 116 ∷ 32 ∷ 48 ∷ 32 ∷ 48 ∷ 32 ∷ 53 ∷ 48 ∷ 48 ∷ 10 ∷ [])
    ++ (112 ∷ 97 ∷ 114 ∷ 116 ∷ 32 ∷ 49 ∷ 32 ∷ 49 ∷ 53 ∷ 48 ∷ 48 ∷ 32 ∷ 50 ∷ 48 ∷ 48 ∷ 48 ∷ 10 ∷ [])
    ++ (112 ∷ 97 ∷ 114 ∷ 116 ∷ 32 ∷ 50 ∷ 32 ∷ 48 ∷ 32 ∷ 50 ∷ 53 ∷ 48 ∷ 48 ∷ 10 ∷ [])
    ++ (112 ∷ 97 ∷ 114 ∷ 116 ∷ 32 ∷ 48 ∷ 32 ∷ 53 ∷ 48 ∷ 48 ∷ 32 ∷ 50 ∷ 48 ∷ 48 ∷ 48 ∷ 10 ∷ [])
    ++ (112 ∷ 97 ∷ 114 ∷ 116 ∷ 32 ∷ 52 ∷ 32 ∷ 51 ∷ 48 ∷ 48 ∷ 32 ∷ 57 ∷ 48 ∷ 48 ∷ 10 ∷ [])
    ++ (104 ∷ 101 ∷ 108 ∷ 100 ∷ 32 ∷ 51 ∷ 32 ∷ 50 ∷ 52 ∷ 48 ∷ 48 ∷ 32 ∷ 49 ∷ 32 ∷ 49 ∷ 10 ∷ [])
    ++ (101 ∷ 110 ∷ 100 ∷ 32 ∷ 52 ∷ 32 ∷ 54 ∷ 32 ∷ 49 ∷ 32 ∷ 49 ∷ 10 ∷ [])
unfolding text
base-text = refl

-- a refusal prints one line; "none" prints 4294967295; a faulty job
pub other-lines :
    (printed (given (record { refusal = 7; place = 1; settled = 0; parts = 0; held = 0; finished = 0 }) [] [] []) ≡ 97 ∷ 110 ∷ 115 ∷ 119 ∷ 101 ∷ 114 ∷ 32 ∷ 55 ∷ 32 ∷ 49 ∷ 10 ∷ [])
    × (decimal none ≡ 52 ∷ 50 ∷ 57 ∷ 52 ∷ 57 ∷ 54 ∷ 55 ∷ 50 ∷ 57 ∷ 53 ∷ [])
    × (fault 2561 ≡ 106 ∷ 111 ∷ 98 ∷ 32 ∷ 50 ∷ 53 ∷ 54 ∷ 49 ∷ 10 ∷ [])
unfolding text fault
other-lines = (refl, refl, refl)
