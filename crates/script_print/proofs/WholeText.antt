-- The text of a whole script.
use Rattle.std.proofs.Common.{◌≡◌, ℕ, List, [], ◌++◌, refl, ap, ◌∙◌}
use Rattle.std.specs.Prelude.{Ok}
use Rattle.script_model.specs.Reading.{reading}
use Rattle.script_model.specs.Syntax.{Item, Script}
use Rattle.text_io.specs.declared.kinds.Version.{Version}
use Rattle.script_syntax.specs.Read.{IsRead}
use Rattle.script_text.specs.ScriptText.{script_text, printed}
use Rattle.script_text.specs.WellFormed.{IsWellFormed}
use Rattle.script_print.specs.Ended.{ended}

printed_is : (script : Script) → ended (script_text script) ≡ printed script
unfolding printed
printed_is script = refl

abbrev of : Version → List Item → Script
of version items = record { version = version; items = items }

pub printed_pushed : (version : Version) (items : List Item) (script : Script) (empty text new : List ℕ) → empty ≡ [] → text ≡ empty ++ script_text (of version items)
    → version ≡ script.version → items ≡ script.items → new ≡ ended text → new ≡ printed script
printed_pushed version items script empty text new none e v i f =
    f
    ∙ ap ended (e ∙ ap (λ l. l ++ script_text (of version items)) none ∙ ap (λ v. script_text (of v items)) v ∙ ap (λ i. script_text (of script.version i)) i)
    ∙ printed_is script

-- what some text reads as is well formed, and so its own text reads as it
pub read_again : (script : Script) → IsRead script → ((text : List ℕ) (script : Script) → reading text ≡ Ok script → IsWellFormed script)
    → ((script : Script) → IsWellFormed script → reading (printed script) ≡ Ok script) → reading (printed script) ≡ Ok script
read_again script read form again = again script (form read.text script read.reads)
