use Rattle.stream_replay.proofs.side_by_side.run_stream.Goals as goal

pub returns-clause-alone : goal.returns-clause-alone
returns-clause-alone g c = λ whole.
    c.each_page_is_as_if_it_ran_alone.ensures c.args.stream.now (c.lines_of_the_stream_are_those_of_its_pages.ensures c.args.stream.now (c.run_with.ensures.lines whole))
