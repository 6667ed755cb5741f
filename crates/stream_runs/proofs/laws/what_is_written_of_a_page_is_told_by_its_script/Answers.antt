use Rattle.std.proofs.Common.{◌∙◌, sym, ap}
use Rattle.page_model.specs.Outcome.{trace}
use Rattle.stream_runs.proofs.laws.what_is_written_of_a_page_is_told_by_its_script.Goals as goal

pub returns : goal.returns
returns c = λ one other says_one says_other place there name at_one at_other same.
    let alone = c.each_page_is_as_if_it_ran_alone.ensures in
    alone one says_one place name at_one ∙ ap trace same ∙ sym (alone other says_other there name at_other)
