use Rattle.std.proofs.Common.{◌≡◌, ◌≢◌}
use Rattle.pth_top.specs.declared.TheConstants.{REPEATED_KEY}
use Rattle.pth_top.specs.declared.answer.Answer.{Answer}
use Rattle.pth_top.specs.Demo.{demo_of_keys}
use Rattle.pth_top.specs.Done.{done_of}
use Rattle.pth_top.proofs.Commands.{each_ok}
use Rattle.pth_top.proofs.Repeats.{demo_of_keys-distinct}
use Rattle.pth_top.proofs.demo.demo.Goals as goal

pub returns-clause-distinct : goal.returns-clause-distinct
returns-clause-distinct g c =
    each_ok c.demo_of_list.result (λ (a : Answer). demo_of_keys c.in-Ok.keys ≡ done_of a) (λ (a : Answer). a.status ≢ REPEATED_KEY)
    (λ a is. demo_of_keys-distinct c.in-Ok.keys (done_of a) c.in-Ok.ensures.distinct is) c.demo_of_list.ensures.done
