use Rattle.std.proofs.Common.{◌≡◌, ◌∙◌, refl, ap, ℕ, ◌+◌, ◌++◌, ◌∷◌, [], arith}
use Rattle.std.proofs.lemmas.Grind.{get_or_default_zero}
use Rattle.std.specs.Prelude.{slice_set, slice_index}
use Rattle.page_stream.specs.declared.stream.Part.{Part}
use Rattle.page_stream.proofs.Held.{held_added, held_same}
use Rattle.page_stream.proofs.splitting.Splitting.add.Goals as goal

pub returns-in-Ok-clause-split : goal.returns-in-Ok-clause-split
returns-in-Ok-clause-split c = λ owned page held.
    let made : ℕ → Part = λ line. record { line = line; page = c.args.self.now.current; from = c.args.from; to = c.args.to } in
    let many = c.requires.as_many in
    let inside = c.requires.inside in
    let was : c.index.result.now ≡ slice_index c.args.self.now.lines.items c.args.self.now.current =
    c.index.ensures ∙ get_or_default_zero c.args.self.now.lines.items c.args.self.now.current c.index.result.now (omega arith) in
    held_same (held_added c.args.from c.args.to held c.requires.inside) refl
    (ap (λ (count : ℕ). slice_set c.args.self.now.lines.items c.args.self.now.current (count + 1)) was)
    (c.in-Ok.ensures.items ∙ ap (λ (count : ℕ). c.args.self.now.parts.items ++ (made (count + 1) ∷ [])) was)
