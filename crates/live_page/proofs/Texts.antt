-- The script without items.
use Rattle.std.proofs.Common.{◌≡◌, ◌∙◌, refl, ap, sym, []}
use Rattle.std.specs.Prelude.{Ok}
use Rattle.text_io.specs.declared.kinds.Version.{Version}
use Rattle.text_io.specs.declared.kinds.Version.TheVariants.{First, Second}
use Rattle.script_model.specs.Reading.{Reading, reading}
use Rattle.script_model.specs.Scripts.{handlers_in}
use Rattle.script_model.specs.Syntax.{Script}
use Rattle.live_page.specs.Lives.{empty_text}

abbrev empty_script : Version → Script
empty_script version = record { version = version; items = [] }

empty-reads : (version : Version) → reading (empty_text version) ≡ Ok (empty_script version)
unfolding reading
empty-reads First = refl
empty-reads Second = refl

same-read : (one other : Script) → (let read : Reading = Ok one in read) ≡ Ok other → one ≡ other
same-read one other is = cc

-- it has no handlers
pub no_handlers : (version : Version) (script : Script) → reading (empty_text version) ≡ Ok script → handlers_in script.items ≡ []
unfolding handlers_in
no_handlers version script is =
    ap (λ (it : Script). handlers_in (it.items)) (sym (same-read (empty_script version) script (sym (empty-reads version) ∙ is)))
