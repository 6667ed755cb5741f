-- An entry is put where it stands, or behind as many of the default as are missing.
use Rattle.std.proofs.Common.{◌≡◌, ◌≤◌, ◌+◌, ◌-◌, ◌∙◌, [], ◌∷◌, ◌++◌, length, replicate, ap, arith, take_all}
use Rattle.std.specs.Prelude.{vec_len}
use Rattle.page_model.specs.Lookups.{put_at}
use Rattle.scrolling.proofs.Puts.{put_behind, put_within}
use Rattle.page_state.proofs.by_document.ByDocument.set.Goals as goal

pub returns-then-place-len : goal.returns-then-place-len
returns-then-place-len g c =
    put_within c.args.default c.args.value c.args.document.0 c.self.inside.entries.items (omega (arith, c.if-place-len.true, c.len.ensures, c.self.inside.entries.ok.0))
    ∙ ap (put_at c.args.default c.args.document.0 c.args.value) c.self.view_is

pub returns : goal.returns
returns g c =
    let items = c.self.inside.entries.items in
    let rest = c.args.document.0 - vec_len c.self.inside.entries in
    let low : length items ≤ c.args.document.0 = omega (arith, c.if-place-len.false, c.len.ensures, c.self.inside.entries.ok.0) in
    let count : length items + rest ≡ c.args.document.0 = omega (arith, low, c.self.inside.entries.ok.0) in
    c.push_reserved.ensures.items
    ∙ ap (λ xs. xs ++ c.args.value ∷ []) (c.in-Ok.ensures.items ∙ ap (λ xs. xs ++ replicate rest c.args.default) (take_all c.args.document.0 items low))
    ∙ put_behind c.args.default c.args.value c.args.document.0 rest items count
    ∙ ap (put_at c.args.default c.args.document.0 c.args.value) c.self.view_is
