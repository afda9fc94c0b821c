-- Parts of a call in which nothing failed, and what happened beside the control connection meanwhile.
use Rattle.std.proofs.Common.{◌≡◌, ◌&&◌, ◌++◌, Bool, true, false, List, [], ◌∷◌, Option, Some, None, inl, inr, refl, ap, sym, ◌∙◌, subst}
use Rattle.ftp_base.specs.declared.types.fault.FtpError.{FtpError}
use Rattle.ftp_transport.specs.Told.{NoneFailed}
use Rattle.ftp_transfer.specs.Mark.{End}
use Rattle.ftp_dialogue.specs.Counted.{IsAmong, IsGivenBeside}
use Rattle.ftp_dialogue.specs.Link.{Link, unasked}
use Rattle.ftp_dialogue.specs.NetEvents.{Constructed, Handshook, Net, NetEvent, NetEvents, outcomes_of}
use Rattle.ftp_dialogue.specs.State.{LetsGo, SessionValue}
use Rattle.ftp_dialogue.specs.declared.model.NetOutcome.{NetOutcome}
use Rattle.ftp_dialogue.proofs.NetEvents.{drops, letting_net_events, net_events-append, outcomes-append}
use Rattle.ftp_session.specs.Handed.{as_seen, found, left_if, watches}

-- What happened beside the control connection

pub record Happens (link : Link) (n m : Net) : Type 0 where
  pub answered : List NetEvent
  pub net_events : link.tells → NetEvents link.beside answered n m

pub nothing_happens : (link : Link) (n : Net) → Happens link n n
nothing_happens link n = record { answered = []; net_events = λ h. refl }

pub happens_on : (link : Link) (a b c : Net) → Happens link a b → Happens link b c → Happens link a c
happens_on link a b c first second = record { answered = first.answered ++ second.answered; net_events = λ h. net_events-append link.beside first.answered second.answered a b c (first.net_events h) (second.net_events h) }

among_after : (fault : FtpError) (first second : List NetOutcome) → IsAmong fault second → IsAmong fault (first ++ second)
among_after fault [] second among = among
among_after fault (outcome ∷ first) second among = inr (among_after fault first second among)

among_before : (fault : FtpError) (first second : List NetOutcome) → IsAmong fault first → IsAmong fault (first ++ second)
among_before fault [] second among = absurd among
among_before fault (outcome ∷ first) second (inl given) = inl given
among_before fault (outcome ∷ first) second (inr among) = inr (among_before fault first second among)

-- an error that was given, after or before other things happened
pub given_after : (link : Link) (fault : FtpError) (a b c : Net) → Happens link a b → IsGivenBeside link fault b c → IsGivenBeside link fault a c
given_after link fault a b c first gives = record {
  answered = first.answered ++ gives.answered;
  net_events = λ h. net_events-append link.beside first.answered gives.answered a b c (first.net_events h) (gives.net_events h);
  among = (let P : List NetOutcome → Type 0 = IsAmong fault in subst P (sym (outcomes-append first.answered gives.answered)) (among_after fault (outcomes_of first.answered) (outcomes_of gives.answered) gives.among));
}

pub given_before : (link : Link) (fault : FtpError) (a b c : Net) → IsGivenBeside link fault a b → Happens link b c → IsGivenBeside link fault a c
given_before link fault a b c gives second = record {
  answered = gives.answered ++ second.answered;
  net_events = λ h. net_events-append link.beside gives.answered second.answered a b c (gives.net_events h) (second.net_events h);
  among = (let P : List NetOutcome → Type 0 = IsAmong fault in subst P (sym (outcomes-append gives.answered second.answered)) (among_before fault (outcomes_of gives.answered) (outcomes_of second.answered) gives.among));
}

pub lets_happen : (link : Link) (v w : SessionValue) → LetsGo link.tells v w → Happens link v.net w.net
lets_happen link v w is = record { answered = drops v.state.counts.owed; net_events = λ h. letting_net_events link.tells v w link.beside h is }

-- what happens where nothing is asked of a builder happens where one may be
asked_events : (link : Link) (answered : List NetEvent) (n m : Net) → NetEvents (unasked link).beside answered n m → NetEvents link.beside answered n m
asked_events link [] n m is = is
asked_events link (Constructed address None ∷ more) n m is = absurd is.1.built.1
asked_events link (Constructed address (Some fault) ∷ more) n m is = absurd is.1.built.0
asked_events link (Handshook None ∷ more) n m is = (is.0, is.1, asked_events link more is.0 m is.2)
asked_events link (Handshook (Some fault) ∷ more) n m is = (is.0, is.1, asked_events link more is.0 m is.2)
asked_events link (other ∷ more) n m is = (is.0, is.1, asked_events link more is.0 m is.2)

-- A part in which nothing failed

pub record Calm (link : Link) (old new : SessionValue) : Type 0 where
  pub none : link.tells → NoneFailed old.channel.told new.channel.told
  pub going : new.channel.failed ≡ true → old.channel.failed ≡ true
  pub happens : Happens link old.net new.net

pub calm_beside : (link : Link) (old new : SessionValue) → new.channel ≡ old.channel → new.net ≡ old.net → Calm link old new
calm_beside link old new channel net = record {
  none = λ h. record { failures = ap (λ c. c.told.failures) channel; last_fault = ap (λ c. c.told.last_fault) channel };
  going = λ f. ap (λ c. c.failed) (sym channel) ∙ f;
  happens = (let P : Net → Type 0 = Happens link old.net in subst P (sym net) (nothing_happens link old.net));
}

pub calm_same : (link : Link) (old new : SessionValue) → new ≡ old → Calm link old new
calm_same link old new is = calm_beside link old new (ap (λ v. v.channel) is) (ap (λ v. v.net) is)

pub calm_on : (link : Link) (old middle new : SessionValue) → Calm link old middle → Calm link middle new → Calm link old new
calm_on link old middle new first second = record {
  none = λ h. record { failures = (second.none h).failures ∙ (first.none h).failures; last_fault = (second.none h).last_fault ∙ (first.none h).last_fault };
  going = λ f. first.going (second.going f);
  happens = happens_on link old.net middle.net new.net first.happens second.happens;
}

pub asked_calm : (link : Link) (old new : SessionValue) → Calm (unasked link) old new → Calm link old new
asked_calm link old new calm = record { none = calm.none; going = calm.going; happens = record { answered = calm.happens.answered; net_events = λ h. asked_events link calm.happens.answered old.net new.net (calm.happens.net_events h) } }

-- the look changes neither the channel nor what stands beside it
pub calm_left : (link : Link) (left : Bool) (old : SessionValue) → Calm link old (left_if left old)
calm_left link true old = calm_beside link old (left_if true old) refl refl
calm_left link false old = calm_same link old old refl

pub calm_seen : (link : Link) (mark : Option End) (old : SessionValue) → Calm link old (as_seen mark old)
calm_seen link mark old = calm_left link (watches mark old && found mark) old
