-- `vmx::container::vmx_interlace_capable`.
use Rattle.vmx.proofs.Laws.{size_refused}
use Rattle.vmx.proofs.container.vmx_interlace_capable.Goals as goal

pub returns-in-Err : goal.returns-in-Err
returns-in-Err c = size_refused _ _ _ _ _ _ _ c.number.ensures c.in-Err.ensures.asked
