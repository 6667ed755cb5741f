-- The summary of a trace: a line for each kind of trace line, with the number of such lines. This form is this project's own choice.
use Rattle.std.specs.Prelude.{ℕ, List, [], ◌∷◌, ◌++◌, flat_map, count_by, bytes_eq, codes}
use Rattle.word_model.specs.Numbers.{decimal}
use Rattle.script_model.specs.TraceLines.{TraceLine}
use Rattle.script_model.specs.TraceText.{kind_text}

abbrev pub kinds : List (List ℕ)
kinds =
    codes "tick"
    ∷ codes "timer"
    ∷ codes "frame"
    ∷ codes "task"
    ∷ codes "event"
    ∷ codes "resize"
    ∷ codes "round"
    ∷ codes "intersect"
    ∷ codes "take"
    ∷ codes "say"
    ∷ codes "read"
    ∷ codes "throw"
    ∷ codes "limit"
    ∷ codes "syntax"
    ∷ []

unfoldable pub count_of : List ℕ → List TraceLine → ℕ
count_of kind lines = count_by (λ line. bytes_eq (kind_text line) kind) lines

unfoldable pub count_text : List TraceLine → List ℕ → List ℕ
unfolding decimal count_of
count_text lines kind = kind ++ (32 ∷ decimal (count_of kind lines)) ++ (10 ∷ [])

unfoldable pub summary_text : List TraceLine → List ℕ
unfolding count_text
summary_text lines = flat_map (count_text lines) kinds
