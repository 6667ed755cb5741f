-- Handing out the entries of a batch one after the other, and what the definitions do with the entries that they copied.
use Rattle.std.specs.Prelude.{Bool, cond, List, [], ◌∷◌, Option, Some, None}
use Rattle.page_model.specs.Runs.{Said, silent, ◌followed_by◌, for_each, only_if}

-- the rest of a batch after the first entry that passes the test was handed out: the entries behind it
abbrev pub behind_first : {A : Type 0} → (A → Bool) → List A → List A
behind_first test [] = []
behind_first test (x ∷ xs) = cond (test x) xs (behind_first test xs)

-- each entry is run if it is still there at its turn
abbrev pub one_by_one : {A S : Type 0} → (A → S → Bool) → (A → S → Said S) → List A → S → Said S
one_by_one stands run entries state = for_each (λ entry now. only_if (run entry) now (stands entry now)) entries state

-- an entry is run, if there is one, and then the others
abbrev pub run_and_then : {A S : Type 0} → (A → S → Bool) → (A → S → Said S) → Option A → List A → S → Said S
run_and_then stands run None others state = silent state
run_and_then stands run (Some entry) others state = run entry state followed_by one_by_one stands run others
