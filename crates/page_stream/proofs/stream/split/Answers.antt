use Rattle.std.proofs.Common.{◌≡◌, ◌∙◌, refl, sym, ap, subst, ℕ, ◌<◌, length, ◌≤◌, None, Some, zero-add, arith, rules}
use Rattle.std.proofs.lemmas.Bool.{true≢false}
use Rattle.text_lines.specs.Lines.{first_line}
use Rattle.text_lines.proofs.Splits.{behind_shorter}
use Rattle.page_stream.specs.PageLines.{page_named}
use Rattle.page_stream.specs.Splits.{SplitTo}
use Rattle.page_stream.proofs.Taken.{nothing_taken, page_taken, one_past, none_past, all_pages, all_parts, few_lines, is_a_stream, no_stream, stream_some}
use Rattle.page_stream.proofs.stream.split.Goals as goal

pub returns-in_default-clause-no_page : goal.returns-in_default-clause-no_page
returns-in_default-clause-no_page c =
    let named : page_named (first_line c.args.source.now) ≡ None = ap page_named (sym c.split_line.ensures.line) ∙ sym c.page_named.ensures ∙ c.in_default.is in
    (λ same. no_stream c.args.source.now named, λ no. refl)

pub returns-in-Err-clause-no_page : goal.returns-in-Err-clause-no_page
returns-in-Err-clause-no_page c =
    let named : page_named (first_line c.args.source.now) ≡ Some c.in-Some.name = ap page_named (sym c.split_line.ensures.line) ∙ sym c.page_named.ensures ∙ c.in-Some.is in
    (λ same. absurd (c.in-Err.ensures.page cc), λ no. absurd (true≢false (sym (is_a_stream c.args.source.now named) ∙ no)))

pub returns-in-Err-clause-too_many : goal.returns-in-Err-clause-too_many
returns-in-Err-clause-too_many c = λ line same.
    let named : page_named (first_line c.args.source.now) ≡ Some c.in-Some.name = ap page_named (sym c.split_line.ensures.line) ∙ sym c.page_named.ensures ∙ c.in-Some.is in
    let told = c.in-Err.ensures.too_many line same in
    one_past c.in-Some.name (nothing_taken {split = c.new-splitting.result} c.args.source.now c.args.most_pages c.new-splitting.ensures.split c.new-splitting.ensures.pages) (stream_some c.args.source.now named) c.split_line.ensures.line
    (sym c.page_named.ensures ∙ c.in-Some.is) told.2 told.1
    ∙ ap Some (sym told.0)

pub loop-rest-init : goal.loop-rest-init
loop-rest-init c =
    let named : page_named (first_line c.args.source.now) ≡ Some c.in-Some.name = ap page_named (sym c.split_line.ensures.line) ∙ sym c.page_named.ensures ∙ c.in-Some.is in
    record {
      taken =
          subst (λ (from : ℕ). SplitTo c.args.source.now c.turn_to.new.self c.args.most_pages 1 from c.split_line.result.1.now) (zero-add (length c.split_line.result.0.now))
          (page_taken c.in-Some.name (nothing_taken {split = c.new-splitting.result} c.args.source.now c.args.most_pages c.new-splitting.ensures.split c.new-splitting.ensures.pages) (stream_some c.args.source.now named)
          c.split_line.ensures.line c.split_line.ensures.rest (sym c.page_named.ensures ∙ c.in-Some.is) c.in_default-turn_to.ensures.split c.in_default-turn_to.ensures.pages c.in_default-turn_to.ensures.few);
      inside = c.in_default-turn_to.ensures.inside;
    }

pub take_line-requires-clause-few : goal.take_line-requires-clause-few
take_line-requires-clause-few c =
    let few = few_lines c.loop-rest.invariant.taken c.loop-rest.invariant.inside in
    let place = c.loop-rest.invariant.taken.place in
    omega arith

pub returns-in-Err-take_line-clause-no_page : goal.returns-in-Err-take_line-clause-no_page
returns-in-Err-take_line-clause-no_page c =
    let named : page_named (first_line c.args.source.now) ≡ Some c.in-Some.name = ap page_named (sym c.split_line.ensures.line) ∙ sym c.page_named.ensures ∙ c.in-Some.is in
    (λ same. absurd (c.in-Err-take_line.ensures.page cc), λ no. absurd (true≢false (sym (is_a_stream c.args.source.now named) ∙ no)))

pub returns-in-Err-take_line-clause-too_many : goal.returns-in-Err-take_line-clause-too_many
returns-in-Err-take_line-clause-too_many c = λ line same.
    let some : 0 < length c.loop-rest.rest.now = search rules in
    c.in-Err-take_line.ensures.too_many line same c.args.source.now c.loop-rest.rest.now c.loop-rest.number refl some c.split_line-in-loop-rest.ensures.line c.loop-rest.invariant.taken

pub loop-rest-smaller : goal.loop-rest-smaller
loop-rest-smaller c =
    let some : 0 < length c.loop-rest.rest.now = search rules in
    omega (arith, behind_shorter c.loop-rest.rest.now some, ap length c.split_line-in-loop-rest.ensures.rest)

pub invariant_of-result : goal.invariant_of-result
invariant_of-result c =
    let none : length c.loop-rest.rest.now ≤ 0 = search rules in
    (all_pages c.loop-rest.invariant.taken none, all_parts c.loop-rest.invariant.taken none)

pub returns-clause-stream : goal.returns-clause-stream
returns-clause-stream c =
    let named : page_named (first_line c.args.source.now) ≡ Some c.in-Some.name = ap page_named (sym c.split_line.ensures.line) ∙ sym c.page_named.ensures ∙ c.in-Some.is in
    let none : length c.loop-rest.rest.now ≤ 0 = search rules in
    (refl, is_a_stream c.args.source.now named, none_past c.loop-rest.invariant.taken none)

pub returns-clause-no_page : goal.returns-clause-no_page
returns-clause-no_page c =
    let named : page_named (first_line c.args.source.now) ≡ Some c.in-Some.name = ap page_named (sym c.split_line.ensures.line) ∙ sym c.page_named.ensures ∙ c.in-Some.is in
    (λ same. cc, λ no. absurd (true≢false (sym (is_a_stream c.args.source.now named) ∙ no)))
