use Rattle.std.proofs.Common.{◌≡◌, ◌≤◌, ◌∙◌, sym, ap, ◌+◌, length, take, arith, inl, ℕ, Result, Ok, Err, IfErr}
use Rattle.std.specs.Prelude.{IsErrAnd}
use Rattle.std.specs.declared.io.ErrorKind.{ErrorKind}
use Rattle.ftp_base.specs.declared.types.fault.FtpError.{FtpError}
use Rattle.ftp_base.specs.declared.types.fault.FtpError.TheVariants.{ConnectionError}
use Rattle.ftp_base.specs.declared.types.fault.ConnectionError.TheVariants.{Io}
use Rattle.ftp_base.specs.Ascii.{IsCopyFault}
use Rattle.ftp_base.proofs.CopyLemmas.{Copies-start, Copies-front, Copies-front_piece, OnErr-always, Copies-more, Copies-too_large, added-length, added-all}
use Rattle.ftp_base.proofs.ascii.copy_through.Goals as goal

pub loop-init : goal.loop-init
loop-init g c = record {
  copied = rw c.new-encoder.ensures (Copies-start _ _);
  turns = omega arith;
  limit = omega arith;
}

pub returns-then-taken-eq0-clause-end : goal.returns-then-taken-eq0-clause-end
returns-then-taken-eq0-clause-end g c = c.in_ok-taken.ensures.bytes.1 c.if-taken-eq0.true (omega (arith, c.requires))

pub returns-in_err-size-clause-too_large : goal.returns-in_err-size-clause-too_large
returns-in_err-size-clause-too_large g c e =
    Copies-too_large _ _ _ _ _ _ _ _ _ _ _ c.loop.invariant.copied c.in_ok-taken.ensures.bytes.0
    (c.in_ok-encode.ensures.written c.loop.invariant.copied.given c.loop.invariant.copied.last) c.clear.ensures.items
    (omega (arith, c.in_err-size.ensures.beyond, c.encode.new.out.ok.0))

pub loop-preserved : goal.loop-preserved
loop-preserved g c =
    let copied = c.loop.invariant.copied in
    let piece = take c.in_ok-taken.taken c.read_retrying.new.buffer in
    let adds = c.in_ok-encode.ensures.written copied.given copied.last in
    let empty = c.clear.ensures.items in
    let size : c.in_ok-size.size ≡ c.loop.count + length c.encode.new.out.items = c.in_ok-size.ensures.sum ∙ ap (λ n. c.loop.count + n) (c.len.ensures ∙ c.encode.new.out.ok.0) in
    let long : length piece ≤ length c.encode.new.out.items = rw (added-all _ _ _ _ adds empty) (added-length _ _ _ _ adds) in
    let taken : length piece ≡ c.in_ok-taken.taken = sym c.in_ok-taken.ensures.bound.1 in
    record {
      copied = rw size (Copies-more _ _ _ _ _ _ _ _ _ piece _ _ copied c.in_ok-taken.ensures.bytes.0 adds empty (rw (← c.deref.ensures.value) c.in_ok-write_all_retrying.ensures.ok) (c.in_ok-encode.ensures.last copied.given copied.last));
      turns = omega (arith, c.loop.invariant.turns, size, long, taken, c.if-taken-eq0.false);
      limit = omega (arith, c.in_ok-size.ensures.within, c.in_ok-size.ensures.sum);
    }

pub returns-in_err-taken-clause-err : goal.returns-in_err-taken-clause-err
returns-in_err-taken-clause-err g c = OnErr-always _ _ (Copies-front _ _ _ _ _ _ c.loop.invariant.copied)

pub returns-in_err-encode-clause-err : goal.returns-in_err-encode-clause-err
returns-in_err-encode-clause-err g c = OnErr-always _ _ (Copies-front _ _ _ _ _ _ c.loop.invariant.copied)

pub returns-in_err-size-clause-err : goal.returns-in_err-size-clause-err
returns-in_err-size-clause-err g c = OnErr-always _ _ (Copies-front _ _ _ _ _ _ c.loop.invariant.copied)

pub returns-in_err-write_all_retrying-clause-err : goal.returns-in_err-write_all_retrying-clause-err
returns-in_err-write_all_retrying-clause-err g c =
    let copied = c.loop.invariant.copied in
    OnErr-always _ _ (Copies-front_piece _ _ _ _ _ _ _ _ _ _ _ copied c.in_ok-taken.ensures.bytes.0 (c.in_ok-encode.ensures.written copied.given copied.last) c.clear.ensures.items
    (rw (← c.deref.ensures.value) c.in_err-write_all_retrying.ensures.err))

-- an error of the reader or the writer, in the copy's answer
io_fault : (result : Result ℕ FtpError) (kind : ErrorKind) → IsErrAnd result (λ fault. fault ≡ ConnectionError (Io kind)) → IfErr result IsCopyFault
io_fault (Ok count) kind is = tt
io_fault (Err fault) kind is = inl (kind, is)

pub returns-in_err-taken-clause-faults : goal.returns-in_err-taken-clause-faults
returns-in_err-taken-clause-faults g c = io_fault _ _ c.from_residual.ensures.1

pub returns-in_err-write_all_retrying-clause-faults : goal.returns-in_err-write_all_retrying-clause-faults
returns-in_err-write_all_retrying-clause-faults g c = io_fault _ _ c.from_residual-in_err-write_all_retrying.ensures.1
