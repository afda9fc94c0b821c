-- What is kept once the replies that were due have been read.
use Rattle.std.proofs.Common.{◌≡◌, ℕ, zero, suc, Bool, true, false, Option, Some, None, [], Result, Ok, Err, ap, ◌∙◌, subst}
use Rattle.futures.specs.declared.task.Poll.{Poll}
use Rattle.futures.specs.declared.task.Poll.TheVariants.{Ready, Pending}
use Rattle.ftp_base.specs.declared.types.reply.Response.{Response}
use Rattle.ftp_base.specs.declared.types.fault.FtpError.{FtpError}
use Rattle.ftp_base.specs.declared.types.fault.FtpError.TheVariants as faults
use Rattle.ftp_dialogue.specs.CatchingUp.{After, BeginsAnew, CatchesUp, Flushes, ReadsDue, ReadsIf, is_caught_up, told_by}
use Rattle.ftp_dialogue.specs.Dialogue.{expecting}
use Rattle.ftp_dialogue.specs.Link.{Link}
use Rattle.ftp_dialogue.specs.Reading.{ReadsAlone, ReadsCounted, ReadsUnless}
use Rattle.ftp_dialogue.specs.State.{SessionValue}
use Rattle.ftp_dialogue.specs.Unanswered.{most_commands}
use Rattle.ftp_dialogue.proofs.Hearing.{nothing_resumes}

-- a part after which others follow
abbrev Then : Type 1
Then = SessionValue → SessionValue → Poll (Option FtpError) → Type 0

module _ (link : Link) where
  -- after a reply nothing is kept
  read_leaves : (old middle : SessionValue) (heard : Poll (Result Response FtpError)) (Next : Then) (new : SessionValue) → ReadsAlone link (expecting []) old middle heard → After Next (told_by heard) middle new (Ready None) → (middle.channel.kept ≡ []) × Next middle new (Ready None)
  read_leaves old middle heard Next new reads after = go old.channel.failed heard reads after
    where
      counted : (h : Poll (Result Response FtpError)) → ReadsCounted link (expecting []) old middle h → After Next (told_by h) middle new (Ready None) → (middle.channel.kept ≡ []) × Next middle new (Ready None)
      counted (Ready (Ok reply)) c next = (ap (λ v. v.channel.kept) c.counts ∙ c.leaves.kept tt, next)
      counted (Ready (Err (faults.UnexpectedResponse reply))) c next = (ap (λ v. v.channel.kept) c.counts ∙ c.leaves.kept tt, next)
      counted (Ready (Err (faults.ConnectionError why))) c next = let clash : Ready None ≡ Ready (Some (faults.ConnectionError why)) = next.0 in cc
      counted (Ready (Err (faults.SecureError text))) c next = let clash : Ready None ≡ Ready (Some (faults.SecureError text)) = next.0 in cc
      counted (Ready (Err faults.BadResponse)) c next = let clash : Ready None ≡ Ready (Some faults.BadResponse) = next.0 in cc
      counted (Ready (Err faults.InvalidAddress)) c next = let clash : Ready None ≡ Ready (Some faults.InvalidAddress) = next.0 in cc
      counted (Ready (Err faults.DataConnectionAlreadyOpen)) c next = let clash : Ready None ≡ Ready (Some faults.DataConnectionAlreadyOpen) = next.0 in cc
      counted (Ready (Err faults.OutOfMemory)) c next = let clash : Ready None ≡ Ready (Some faults.OutOfMemory) = next.0 in cc
      counted (Ready (Err faults.SessionFailed)) c next = let clash : Ready None ≡ Ready (Some faults.SessionFailed) = next.0 in cc
      counted Pending c next = let clash : Ready None ≡ Pending = next.0 in cc

      refused : (h : Poll (Result Response FtpError)) → h ≡ Ready (Err faults.SessionFailed) → After Next (told_by h) middle new (Ready None) → (middle.channel.kept ≡ []) × Next middle new (Ready None)
      refused h is next =
          let told : After Next (Ready (Some faults.SessionFailed)) middle new (Ready None) = rw is at next in
          let clash : Ready None ≡ Ready (Some faults.SessionFailed) = told.0 in
          cc

      go : (b : Bool) (h : Poll (Result Response FtpError)) → ReadsUnless b link (expecting []) old middle h → After Next (told_by h) middle new (Ready None) → (middle.channel.kept ≡ []) × Next middle new (Ready None)
      go true h refuses next = refused h refuses.0 next
      go false h c next = counted h c next

  -- nor after those that follow
  due_leaves : (plain : Bool) (left : ℕ) (old new : SessionValue) → old.channel.kept ≡ [] → ReadsDue plain left link old new (Ready None) → new.channel.kept ≡ []
  unfolding ReadsDue
  due_leaves plain zero old new none ends = let clash : Ready None ≡ Ready (Some faults.BadResponse) = ends.0 in cc
  due_leaves plain (suc left) old new none reads = go (λ v w. due_leaves plain left v w) (is_caught_up plain old.state) reads
    where
      go : ((v w : SessionValue) → v.channel.kept ≡ [] → ReadsDue plain left link v w (Ready None) → w.channel.kept ≡ []) → (b : Bool) → ReadsIf b link (λ v w r. ReadsDue plain left link v w r) old new (Ready None) → new.channel.kept ≡ []
      go others true same = ap (λ v. v.channel.kept) same.1 ∙ none
      go others false one =
          let first = read_leaves old one.middle one.heard (λ v w r. ReadsDue plain left link v w r) new one.reads one.then_reads in
          others one.middle new first.0 first.1

  -- one is read at least where one is due
  some_leaves : (plain : Bool) (left : ℕ) (old new : SessionValue) → is_caught_up plain old.state ≡ false → ReadsDue plain left link old new (Ready None) → new.channel.kept ≡ []
  unfolding ReadsDue
  some_leaves plain zero old new some ends = let clash : Ready None ≡ Ready (Some faults.BadResponse) = ends.0 in cc
  some_leaves plain (suc left) old new some reads =
      let P : Bool → Type 0 = λ b. ReadsIf b link (λ v w r. ReadsDue plain left link v w r) old new (Ready None) in
      let one = subst P some reads in
      let first = read_leaves old one.middle one.heard (λ v w r. ReadsDue plain left link v w r) new one.reads one.then_reads in
      due_leaves plain left one.middle new first.0 first.1

  caught_leaves : (plain : Bool) (old new : SessionValue) → is_caught_up plain old.state ≡ false → CatchesUp link plain old new (Ready None) → new.channel.kept ≡ []
  caught_leaves plain old new some up = go up.flush up.flushes up.then_reads
    where
      go : (flush : Poll (Option FtpError)) → Flushes link old up.flushed flush → After (ReadsDue plain most_commands link) flush up.flushed new (Ready None) → new.channel.kept ≡ []
      go (Ready None) flushes reads = some_leaves plain most_commands up.flushed new (ap (λ (v : SessionValue). is_caught_up plain v.state) flushes.beside ∙ some) reads
      go (Ready (Some fault)) flushes ends = let clash : Ready None ≡ Ready (Some fault) = ends.0 in cc
      go Pending flushes waits = let clash : Ready None ≡ Pending = waits.0 in cc

-- what is read then begins anew
pub begins_anew : (link : Link) (plain : Bool) (old new : SessionValue) → is_caught_up plain old.state ≡ false → CatchesUp link plain old new (Ready None) → BeginsAnew new
begins_anew link plain old new some up =
    let none = caught_leaves link plain old new some up in
    record { none = none; resumes = λ tree. rw none (nothing_resumes new.state.settings.reply_rule tree) }
