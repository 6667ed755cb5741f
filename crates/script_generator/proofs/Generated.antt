-- The text of a number reads as its script, and is as that is printed.
use Rattle.std.proofs.Common.{◌≡◌, ◌∙◌, sym, ap, ℕ, ◌≤◌, List, [], ◌∷◌, ◌++◌, length, arith, length-append}
use Rattle.std.proofs.lemmas.Bool.{lt-ltb}
use Rattle.std.specs.Prelude.{cond, flat_map, codes, Ok}
use Rattle.text_io.specs.declared.kinds.LimitKind.TheVariants as limits
use Rattle.text_io.specs.Limits.{common_limit}
use Rattle.script_model.specs.Generator.{generated}
use Rattle.script_model.specs.Reading.{Reading, reading}
use Rattle.script_model.specs.Syntax.{Script}
use Rattle.script_text.specs.ScriptText.{script_text, printed}
use Rattle.script_text.specs.WellFormed.{IsWellFormed}
use Rattle.script_generator.proofs.Consecutive.{feeds_behind}
use Rattle.script_generator.proofs.Items.{generated_script}
use Rattle.script_generator.proofs.Texts.{all_words, lines_are}
use Rattle.script_generator.proofs.WellFormed.{text_is, text_short, well_formed}

-- the text is shorter than a script may be, so that its last line ends with a line feed
ended : (number : ℕ) → printed (generated_script number) ≡ script_text (generated_script number) ++ (10 ∷ [])
unfolding printed
ended number =
    let text : List ℕ = script_text (generated_script number) in
    ap (λ short. cond short (text ++ (10 ∷ [])) text)
    (lt-ltb (length text) (common_limit limits.Script) (let few = text_short number in omega arith))

pub printed_is : (number : ℕ) → printed (generated_script number) ≡ generated number
unfolding generated
printed_is number =
    ended number ∙ ap (λ text. text ++ (10 ∷ [])) (text_is number) ∙ feeds_behind (codes "script 1") (all_words number)
    ∙ ap (flat_map (λ line. line ++ (10 ∷ []))) (lines_are number)

-- what is printed of a well-formed script reads as it
abbrev pub PrintedReads : Type 0
PrintedReads = (script : Script) → IsWellFormed script → reading (printed script) ≡ Ok script

pub reads : PrintedReads → (number : ℕ) → reading (generated number) ≡ Ok (generated_script number)
reads again number = ap reading (sym (printed_is number)) ∙ again (generated_script number) (well_formed number)

pub generated_reads : PrintedReads → (number : ℕ) → (script : Script) × (reading (generated number) ≡ Ok script) × (printed script ≡ generated number)
generated_reads again number = (generated_script number, reads again number, printed_is number)

pub few_bytes : (number : ℕ) → length (generated number) ≤ 3000000
few_bytes number =
    let is = ap length (printed_is number) in
    let end = ap length (ended number) in
    let both = length-append (script_text (generated_script number)) (10 ∷ []) in
    let short = text_short number in
    omega arith

-- the script that the text reads as is printed as the text
pub printed_again : (number : ℕ) (script : Script) → reading (generated number) ≡ Ok script
    → ((script : Script) × (reading (generated number) ≡ Ok script) × (printed script ≡ generated number)) → printed script ≡ generated number
printed_again number script read made = let same : made.0 ≡ script = ok_same made.0 script (reading (generated number)) made.1 read in ap printed (sym same) ∙ made.2
  where
    ok_same : (a b : Script) (read : Reading) → read ≡ Ok a → read ≡ Ok b → a ≡ b
    ok_same a b read e f = cc
