-- Lemmas on errors that are heard in place of a reply.
use Rattle.std.proofs.Common.{◌≡◌, ◌⊎◌, Bool, true, false, Some, inl, inr, refl, sym, ◌∙◌, subst}
use Rattle.std.specs.declared.io.ErrorKind.{ErrorKind}
use Rattle.ftp_base.specs.declared.types.fault.FtpError.{FtpError}
use Rattle.ftp_base.specs.declared.types.fault.FtpError.TheVariants.{ConnectionError, SecureError, UnexpectedResponse, BadResponse, InvalidAddress, DataConnectionAlreadyOpen, OutOfMemory, SessionFailed}
use Rattle.ftp_base.specs.declared.types.fault.ConnectionError.TheVariants.{Io}
use Rattle.ftp_calls.specs.declared.call.Answer.{Answer}
use Rattle.ftp_calls.specs.declared.call.Answer.TheVariants.{Fault}
use Rattle.ftp_calls.specs.declared.call.Call.{Call}
use Rattle.ftp_calls.specs.declared.exchange.Ending.{Ending}
use Rattle.ftp_calls.specs.declared.exchange.Ending.TheVariants as ending
use Rattle.ftp_calls.specs.declared.exchange.Turn.{Turn}
use Rattle.ftp_calls.specs.Exchanges.{ending_of, is_draining, kind_of, row_of}
use Rattle.ftp_dialogue.proofs.OpeningData.{row_answers}
use Rattle.ftp_dialogue.specs.Dialogue.{answer_to_fault, wants_memory}
use Rattle.ftp_dialogue.specs.Promises.{IsFault}
use Rattle.ftp_dialogue.specs.State.{SessionValue}
use Rattle.ftp_dialogue.specs.Steps.Moving.{EndsFaulty, FaultLeavesIf, HeardFault, after_fault}
use Rattle.ftp_dialogue.specs.Steps.Stages.{AnswersKind, MayAnswer, TurnOf}

-- an error that is heard is the answer, unless it is a reply of another status that ends a transfer that was left
pub told_fails : (how : Ending) (fault : FtpError) (old mid : SessionValue) → HeardFault fault old mid → mid.channel.failed ≡ true → (old.channel.failed ≡ true) ⊎ IsFault (answer_to_fault how fault)
told_fails ending.Done fault old mid heard failed = inr tt
told_fails ending.GivesReply fault old mid heard failed = inr tt
told_fails ending.TakesReply fault old mid heard failed = inr tt
told_fails ending.Greets fault old mid heard failed = inr tt
told_fails ending.GivesPath fault old mid heard failed = inr tt
told_fails ending.GivesSecondLine fault old mid heard failed = inr tt
told_fails ending.GivesTime fault old mid heard failed = inr tt
told_fails ending.GivesSize fault old mid heard failed = inr tt
told_fails ending.GivesFeatures fault old mid heard failed = inr tt
told_fails (ending.SetsText text) fault old mid heard failed = inr tt
told_fails (ending.GoesOn status) fault old mid heard failed = inr tt
told_fails ending.Continues fault old mid heard failed = inr tt
told_fails ending.GivesAddress fault old mid heard failed = inr tt
told_fails (ending.GivesPort tries) fault old mid heard failed = inr tt
told_fails (ending.Opens replies) fault old mid heard failed = inr tt
told_fails (ending.Performs task) fault old mid heard failed = inr tt
told_fails (ending.Finishes close) fault old mid heard failed = inr tt
told_fails ending.Stops fault old mid heard failed = inr tt
told_fails ending.Drains (ConnectionError cause) old mid heard failed = inr tt
told_fails ending.Drains (SecureError text) old mid heard failed = inr tt
told_fails ending.Drains BadResponse old mid heard failed = inr tt
told_fails ending.Drains InvalidAddress old mid heard failed = inr tt
told_fails ending.Drains DataConnectionAlreadyOpen old mid heard failed = inr tt
told_fails ending.Drains OutOfMemory old mid heard failed = inr tt
told_fails ending.Drains SessionFailed old mid heard failed = inr tt
told_fails ending.Drains (UnexpectedResponse reply) old mid heard failed = inl (sym (heard.goes_on reply refl) ∙ failed)

-- a failure of the connection is an error
pub told_failure : (how : Ending) (kind : ErrorKind) → (fault : FtpError) × (answer_to_fault how (ConnectionError (Io kind)) ≡ Fault fault)
told_failure ending.Done kind = (_, refl)
told_failure other kind = (_, refl)

-- what is answered where an error is heard is of the ending's kind
told_kind : (how : Ending) (fault : FtpError) → AnswersKind (kind_of how) (answer_to_fault how fault)
told_kind ending.Done fault = tt
told_kind ending.GivesReply fault = tt
told_kind ending.TakesReply fault = tt
told_kind ending.Greets fault = tt
told_kind ending.GivesPath fault = tt
told_kind ending.GivesSecondLine fault = tt
told_kind ending.GivesTime fault = tt
told_kind ending.GivesSize fault = tt
told_kind ending.GivesFeatures fault = tt
told_kind (ending.SetsText text) fault = tt
told_kind (ending.GoesOn status) fault = tt
told_kind ending.Continues fault = tt
told_kind ending.GivesAddress fault = tt
told_kind (ending.GivesPort tries) fault = tt
told_kind (ending.Opens replies) fault = tt
told_kind (ending.Performs task) fault = tt
told_kind (ending.Finishes close) fault = tt
told_kind ending.Stops fault = tt
told_kind ending.Drains (ConnectionError cause) = tt
told_kind ending.Drains (SecureError text) = tt
told_kind ending.Drains BadResponse = tt
told_kind ending.Drains InvalidAddress = tt
told_kind ending.Drains DataConnectionAlreadyOpen = tt
told_kind ending.Drains OutOfMemory = tt
told_kind ending.Drains SessionFailed = tt
told_kind ending.Drains (UnexpectedResponse reply) = refl

pub fault_answers : (call : Call) (turn : Turn) (how : Ending) (begun : Bool) (fault : FtpError) (old new : SessionValue) (told : Answer) → ending_of (row_of call turn) ≡ Some how → TurnOf call turn → EndsFaulty begun how fault old new told → MayAnswer call told
fault_answers call turn how begun fault old new told row of ends = go (wants_memory fault) ends.1
  where
    M : Answer → Type 0
    M a = MayAnswer call a

    go : (b : Bool) → FaultLeavesIf b begun how fault (after_fault begun fault old).state new.state told → MayAnswer call told
    go true left = subst M (sym left.0) (turn, inl of, tt)
    go false left = subst M (sym left.0) (turn, inl of, row_answers (row_of call turn) how (answer_to_fault how fault) row (told_kind how fault))

-- elsewhere what is answered is an error
pub told_undrained : (how : Ending) (fault : FtpError) → is_draining how ≡ false → (found : FtpError) × (answer_to_fault how fault ≡ Fault found)
told_undrained ending.Drains fault none = let clash : true ≡ false = none in cc
told_undrained other fault none = (_, refl)
