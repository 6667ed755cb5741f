-- The lines that were made are those of the script's certificates.
use Rattle.run_replies.proofs.Written.{lint_written}
use Rattle.run_replies.proofs.certificates.certificates_of.Goals as goal

pub returns : goal.returns
returns c =
    lint_written c.args.script.now.items c.blame.result c.blame-2.result c.new-text.result.items c.push_certificate.new.text.items c.push_certificate-2.new.text.items
    c.new-text.ensures.items c.blame.ensures.line c.in_ok-push_certificate.ensures c.blame-2.ensures.line c.in_ok-push_certificate-2.ensures
