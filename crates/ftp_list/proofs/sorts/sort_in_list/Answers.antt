use Rattle.std.proofs.Common.{false}
use Rattle.std.proofs.lemmas.Result.{IfOk-weaker}
use Rattle.ftp_list.specs.Sorts.{IsInList, IsOfList, IsSorted}
use Rattle.ftp_list.proofs.SortFacts.{sort_is}
use Rattle.ftp_list.proofs.sorts.sort_in_list.Goals as goal

pub returns : goal.returns
returns c =
    let now = c.args.now.nanosecond in
    let line = c.args.line.now in
    let read = c.file_in_list.result in
    IfOk-weaker c.sorted.result (IsSorted false read) (IsOfList now line)
    (λ sort is. sort_is (IsInList now line) false read sort c.file_in_list.ensures is) c.sorted.ensures
