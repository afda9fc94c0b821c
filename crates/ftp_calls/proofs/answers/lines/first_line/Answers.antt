use Rattle.std.proofs.Common.{◌≡◌, ◌+◌, suc, length, arith}
use Rattle.std.proofs.lemmas.List.{take_all, drop_all}
use Rattle.ftp_calls.proofs.LineFacts.{line_ends, line_alone}
use Rattle.ftp_calls.proofs.answers.lines.first_line.Goals as goal

pub returns-in-Some-clause-lines : goal.returns-in-Some-clause-lines
returns-in-Some-clause-lines c =
    let bytes = c.args.bytes.now in
    let place = c.in-Some.place in
    let found = c.in-Some.ensures in
    let next : suc place ≡ place + 1 = omega arith in
    rw (c.split_at.ensures.front, c.split_at.ensures.back, ← next)
    (line_ends bytes place found.0.high (λ i low. found.0.before i (omega arith) low) found.1)

pub returns-in-None-clause-lines : goal.returns-in-None-clause-lines
returns-in-None-clause-lines c =
    let bytes = c.args.bytes.now in
    rw (c.split_at-in-None.ensures.front, c.split_at-in-None.ensures.back, take_all (length bytes) bytes (omega arith), drop_all (length bytes) bytes (omega arith))
    (line_alone bytes c.requires (λ i low. c.in-None.ensures i (omega arith) low))
