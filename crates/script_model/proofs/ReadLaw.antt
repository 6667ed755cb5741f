-- The reading of a whole text.
use Rattle.std.proofs.Common.{◌≡◌, ◌∙◌, sym, ap, ℕ, ◌<◌, ◌≤◌, Bool, true, List, [], ◌∷◌, ◌++◌, length, arith}
use Rattle.std.specs.Prelude.{cond, Err}
use Rattle.std.specs.List.{list_all}
use Rattle.std.proofs.lemmas.Bool.{lt-ltb, le-ltb}
use Rattle.std.proofs.lemmas.List.{length-append}
use Rattle.text_io.specs.declared.kinds.LimitKind.TheVariants as limits
use Rattle.text_io.specs.Limits.{common_limit}
use Rattle.script_model.specs.Lexing.{lexed}
use Rattle.script_model.specs.Lines.{is_line_byte, words_of}
use Rattle.script_model.specs.Reading.{LimitAt, last_line, read_lexed, reading}
use Rattle.script_model.specs.Shifts.{reading_later}
use Rattle.script_model.proofs.LineEnds.{wordless_is_passed}
use Rattle.script_model.proofs.ReadLater.{lexed_later}

pub too_long : (text : List ℕ) → common_limit limits.Script < length text → reading text ≡ Err (LimitAt limits.Script (last_line (common_limit limits.Script) text))
unfolding reading
too_long text h = ap (λ (long : Bool). cond long (Err (LimitAt limits.Script (last_line (common_limit limits.Script) text))) (read_lexed (lexed text))) (lt-ltb (common_limit limits.Script) (length text) h)

pub within : (text : List ℕ) → length text ≤ common_limit limits.Script → reading text ≡ read_lexed (lexed text)
unfolding reading
within text h = ap (λ (long : Bool). cond long (Err (LimitAt limits.Script (last_line (common_limit limits.Script) text))) (read_lexed (lexed text))) (le-ltb (common_limit limits.Script) (length text) h)

pub wordless_is_read : (line rest : List ℕ) → list_all is_line_byte line ≡ true → length line ≤ common_limit limits.Line → words_of line ≡ [] → length (line ++ (10 ∷ rest)) ≤ common_limit limits.Script →
    reading (line ++ (10 ∷ rest)) ≡ reading_later 1 (reading rest)
wordless_is_read line rest all short e h =
    let longer = length-append line (10 ∷ rest) in
    within (line ++ (10 ∷ rest)) h
    ∙ ap read_lexed (wordless_is_passed line rest all short e)
    ∙ lexed_later (lexed rest) 1
    ∙ ap (reading_later 1) (sym (within rest (omega arith)))
