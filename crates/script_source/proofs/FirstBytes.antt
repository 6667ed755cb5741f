-- A script is read by its first bytes.
use Rattle.std.proofs.Common.{◌≡◌, ◌<◌, ◌+◌, ◌∙◌, ap, sym, arith, tests, ℕ, List, length, take, inl, inr}
use Rattle.std.proofs.lemmas.Bool.{cases_lt}
use Rattle.std.proofs.lemmas.List.{length-take-le, take_all, take-take}
use Rattle.std.specs.Prelude.{Err, true, cond, nat_lt, count_by, ◌==◌}
use Rattle.text_io.specs.declared.kinds.LimitKind.TheVariants as limits
use Rattle.script_model.specs.Lexing.{lexed}
use Rattle.script_model.specs.Reading.{LimitAt, Reading, reading, read_lexed, last_line}

same-line : (text : List ℕ) → last_line 16777216 (take 16777217 text) ≡ last_line 16777216 text
unfolding last_line
same-line text = ap (λ bytes. 1 + count_by (λ b. b == 10) bytes) (take-take 16777216 16777217 text (omega arith))

refused : (text : List ℕ) → 16777216 < length text → reading text ≡ Err (LimitAt limits.Script (last_line 16777216 text))
unfolding reading
refused text more =
    let long : nat_lt 16777216 (length text) ≡ true = grind (arith, tests) in
    ap (λ it. cond it (Err (LimitAt limits.Script (last_line 16777216 text))) (read_lexed (lexed text))) long

pub first_bytes_read : (text : List ℕ) → reading (take 16777217 text) ≡ reading text
first_bytes_read text = elim (cases_lt 16777216 (length text)) [
  | inl long ↦
      let whole : length (take 16777217 text) ≡ 16777217 = length-take-le 16777217 text (omega (arith, long)) in
      refused (take 16777217 text) (omega (arith, whole))
      ∙ ap (λ (line : ℕ). let read : Reading = Err (LimitAt limits.Script line) in read) (same-line text)
      ∙ sym (refused text long)
  | inr short ↦ ap reading (take_all 16777217 text (omega (arith, short)))
]
