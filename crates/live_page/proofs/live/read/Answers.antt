use Rattle.std.proofs.Common.{◌∙◌, ◌++◌, ap, subst, List, ℕ, take}
use Rattle.script_model.specs.Reading.{Reading, reading}
use Rattle.script_source.proofs.FirstBytes.{first_bytes_read}
use Rattle.script_syntax.specs.Parsing.{Parses}
use Rattle.live_page.proofs.live.read.Goals as goal

pub returns : goal.returns
returns c =
    subst (λ (it : Reading). Parses c.parse.result it)
    (ap reading (c.in-Ok.ensures.ok ∙ ap (λ (text : List ℕ). take 16777217 (text ++ c.args.bytes.now)) c.new-text.ensures) ∙ first_bytes_read c.args.bytes.now)
    c.parse.ensures.value
