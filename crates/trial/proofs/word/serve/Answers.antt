-- `trial::word::serve` meets its contract: each field that is read leaves the rest.
use Rattle.std.proofs.Common.{rules}
use Rattle.trial.proofs.Streaming.{steps}
use Rattle.trial.proofs.word.serve.Goals as goal

pub returns-in_err-n-clause-rest : goal.returns-in_err-n-clause-rest
returns-in_err-n-clause-rest g c = search (rules, steps)

pub returns-in_err-m-clause-rest : goal.returns-in_err-m-clause-rest
returns-in_err-m-clause-rest g c = search (rules, steps)

pub returns-in_err-encode-in-Encode-clause-rest : goal.returns-in_err-encode-in-Encode-clause-rest
returns-in_err-encode-in-Encode-clause-rest g c = search (rules, steps)

pub returns-in_err-decode-in-Decode-clause-rest : goal.returns-in_err-decode-in-Decode-clause-rest
returns-in_err-decode-in-Decode-clause-rest g c = search (rules, steps)

pub returns-in_ok-encode-in-Encode-clause-rest : goal.returns-in_ok-encode-in-Encode-clause-rest
returns-in_ok-encode-in-Encode-clause-rest g c = search (rules, steps)

pub returns-in_ok-decode-in-Decode-clause-rest : goal.returns-in_ok-decode-in-Decode-clause-rest
returns-in_ok-decode-in-Decode-clause-rest g c = search (rules, steps)
