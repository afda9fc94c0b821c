-- What a command's method promises, by the row of its call: bookkeeping of the methods' proofs, of which no public clause
-- speaks.
use Rattle.std.specs.Prelude.{true, [], ◌∷◌, Option, Some}
use Rattle.ftp_base.specs.declared.command.Command.{Command}
use Rattle.ftp_calls.specs.Exchanges.{own_row}
use Rattle.ftp_calls.specs.declared.exchange.Codes.{Codes}
use Rattle.ftp_calls.specs.declared.exchange.Ending.{Ending}
use Rattle.ftp_calls.specs.declared.exchange.Ending.TheVariants.{Done, GivesReply}
use Rattle.ftp_calls.specs.declared.exchange.Row.{Row}
use Rattle.ftp_calls.specs.declared.exchange.Row.TheVariants.{Exchanges}
use Rattle.ftp_calls.specs.declared.call.Answer.{Answer}
use Rattle.ftp_calls.specs.declared.call.Call.{Call}
use Rattle.ftp_calls.specs.declared.call.Call.TheVariants as call
use Rattle.ftp_transfer.specs.Mark.{End}
use Rattle.ftp_dialogue.specs.Coding.{Coding}
use Rattle.ftp_dialogue.specs.Link.{Link}
use Rattle.ftp_dialogue.specs.State.{SessionValue}
use Rattle.ftp_session.specs.Commands.{PlaysCommand, PlaysRead}
use Rattle.ftp_session.specs.Trees.{login_tree, read_tree, rename_tree, reply_tree, resume_tree, type_tree, unit_tree}

-- a command is sent and one reply read, which gives nothing, or is the answer; of other exchanges nothing is said
abbrev pub PlaysExchange : Option Command → Codes → Ending → Link → Coding → Option End → Option End → SessionValue → SessionValue → Answer → Type 0
PlaysExchange (Some command) codes Done link coding mark after old new answer = PlaysCommand link (unit_tree coding command codes) mark after old new answer
PlaysExchange (Some command) codes GivesReply link coding mark after old new answer = PlaysCommand link (reply_tree coding command codes) mark after old new answer
PlaysExchange says codes ending link coding mark after old new answer = Unit {0}

abbrev pub PlaysRow : Row → Link → Coding → Option End → Option End → SessionValue → SessionValue → Answer → Type 0
PlaysRow (Exchanges exchange) link coding mark after old new answer = PlaysExchange exchange.says exchange.hears exchange.ending link coding mark after old new answer
PlaysRow other link coding mark after old new answer = Unit {0}

-- so of a call, where its first row says all; else by a tree of its own
abbrev pub PlaysOwn : Call → Link → Coding → Option End → Option End → SessionValue → SessionValue → Answer → Type 0
PlaysOwn (call.Login user password) link coding mark after old new answer = PlaysCommand link (login_tree coding user password) mark after old new answer
PlaysOwn (call.Rename one other) link coding mark after old new answer = PlaysCommand link (rename_tree coding one other) mark after old new answer
PlaysOwn (call.TransferType kind) link coding mark after old new answer = PlaysCommand link (type_tree coding kind) mark after old new answer
PlaysOwn (call.ResumeTransfer offset) link coding mark after old new answer = PlaysCommand link (resume_tree offset) mark after old new answer
PlaysOwn (call.ReadResponse status) link coding mark after old new answer = PlaysRead link (read_tree (status ∷ [])) mark after old new answer
PlaysOwn (call.ReadResponseIn statuses) link coding mark after old new answer = PlaysRead link (read_tree statuses) mark after old new answer
PlaysOwn called link coding mark after old new answer = PlaysRow (own_row called true) link coding mark after old new answer
