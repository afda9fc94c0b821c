-- Lemmas on polled reads of one reply.
use Rattle.std.proofs.Common.{◌≡◌, ◌⊎◌, ◌∙◌, Bool, true, false, Result, Ok, Err, inl, inr, refl, ap, sym, subst}
use Rattle.futures.specs.declared.task.Poll.{Poll}
use Rattle.futures.specs.declared.task.Poll.TheVariants.{Ready, Pending}
use Rattle.ftp_base.specs.declared.types.reply.Response.{Response}
use Rattle.ftp_base.specs.declared.types.fault.ConnectionError.TheVariants.{Io}
use Rattle.ftp_base.specs.declared.types.fault.FtpError.{FtpError}
use Rattle.ftp_base.specs.declared.types.fault.FtpError.TheVariants.{ConnectionError, OutOfMemory, UnexpectedResponse}
use Rattle.ftp_base.specs.declared.types.fault.FtpError.TheVariants as faults
use Rattle.ftp_dialogue.specs.State.{SessionValue}
use Rattle.ftp_dialogue.specs.Dialogue.{Expected, Tree}
use Rattle.ftp_dialogue.specs.Link.{Link}
use Rattle.ftp_dialogue.specs.Promises.{FailsRead, GivesFault, Untouched}
use Rattle.ftp_dialogue.specs.Reading.{IsReplied, ReadsAlone, ReadsCounted, ReadsUnless, after_poll}
use Rattle.ftp_dialogue.specs.Steps.Moving.{Hears}

-- one of the two can't be
pub no_other : {P : Type 0} → P ⊎ ⊥ → P
no_other (inl holds) = holds
no_other (inr none) = absurd none

-- a session that hasn't failed reads one reply
pub alone_reads : (link : Link) (codes : Expected) (old new : SessionValue) (result : Poll (Result Response FtpError)) → old.channel.failed ≡ false → ReadsCounted link codes old new result → ReadsAlone link codes old new result
alone_reads link codes old new result going reads =
    let P : Bool → Type 0 = λ b. ReadsUnless b link codes old new result in
    subst P (sym going) reads

-- a reply that is counted fails no session
pub counted_fails : (old last new : SessionValue) (result : Poll (Result Response FtpError)) → new ≡ record last { state = after_poll result last.state } → (last.channel.failed ≡ true → (old.channel.failed ≡ true) ⊎ GivesFault result) → new.channel.failed ≡ true → (old.channel.failed ≡ true) ⊎ GivesFault result
counted_fails old last new result is fails failed = fails (sym (ap (λ v. v.channel.failed) is) ∙ failed)

-- after a reply the session goes on
pub hears_goes_on : (link : Link) (codes : Expected) (next : Result Response FtpError → Tree) (old new : SessionValue) (result : Poll (Result Response FtpError)) → Hears link codes next old new result → IsReplied result → new.channel.failed ≡ old.channel.failed
hears_goes_on link codes next old new (Ready (Ok reply)) hears replied = hears.0.failed
hears_goes_on link codes next old new (Ready (Err (UnexpectedResponse reply))) (inl heard) replied = heard.1.goes_on reply refl
hears_goes_on link codes next old new (Ready (Err (UnexpectedResponse reply))) (inr aborts) replied = go aborts.cause
  where
    go : FailsRead link (UnexpectedResponse reply) aborts.at new ⊎ ((UnexpectedResponse reply ≡ OutOfMemory) × (new ≡ aborts.at) × Untouched link aborts.leads.came old aborts.at) → new.channel.failed ≡ old.channel.failed
    go (inl fails) = let clash : UnexpectedResponse reply ≡ ConnectionError (Io fails.kind) = fails.is in cc
    go (inr lacks) = let clash : UnexpectedResponse reply ≡ OutOfMemory = lacks.0 in cc
hears_goes_on link codes next old new (Ready (Err (ConnectionError cause))) hears replied = absurd replied
hears_goes_on link codes next old new (Ready (Err (faults.SecureError text))) hears replied = absurd replied
hears_goes_on link codes next old new (Ready (Err faults.BadResponse)) hears replied = absurd replied
hears_goes_on link codes next old new (Ready (Err faults.InvalidAddress)) hears replied = absurd replied
hears_goes_on link codes next old new (Ready (Err faults.DataConnectionAlreadyOpen)) hears replied = absurd replied
hears_goes_on link codes next old new (Ready (Err OutOfMemory)) hears replied = absurd replied
hears_goes_on link codes next old new (Ready (Err faults.SessionFailed)) hears replied = absurd replied
hears_goes_on link codes next old new Pending hears replied = absurd replied
