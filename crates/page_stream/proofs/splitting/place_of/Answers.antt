use Rattle.std.proofs.Common.{◌≡◌, ◌∙◌, ap, ℕ, length, Option, unwrap_or, rules, tests}
use Rattle.std.specs.Prelude.{bytes_eq}
use Rattle.std.specs.List.{position}
use Rattle.std.proofs.lemmas.Iterator.{YieldsList-from_slice}
use Rattle.std.proofs.lemmas.Iterator.Search.{position_from_yields_List}
use Rattle.page_stream.proofs.Places.{place_found}
use Rattle.page_stream.proofs.splitting.place_of.Goals as goal

pub returns-clause-place : goal.returns-clause-place
returns-clause-place c =
    let found : c.position.result ≡ position (bytes_eq c.args.name.now) c.args.pages.now =
    position_from_yields_List (bytes_eq c.args.name.now) _ _ c.position.result c.position.ensures.ran (YieldsList-from_slice c.args.pages.now c.iter.ensures.rest) (λ x b q k. search (rules, tests)) in
    c.unwrap_or.ensures ∙ ap (λ (o : Option ℕ). unwrap_or o (length c.args.pages.now)) found
    ∙ place_found (bytes_eq c.args.name.now) c.args.pages.now
