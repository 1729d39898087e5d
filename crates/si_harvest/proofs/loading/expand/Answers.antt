use Rattle.si_harvest.proofs.loading.expand.Goals as goal

pub returns-in-Ok-clause-reads : goal.returns-in-Ok-clause-reads
returns-in-Ok-clause-reads g c =
    let reads = c.in-Ok.ensures.reads in
    record { made = reads.made; counted = reads.counted; may = reads.may; first = reads.first; right = reads.right; fault = tt }

pub returns-in-Err-clause-reads : goal.returns-in-Err-clause-reads
returns-in-Err-clause-reads g c =
    let reads = c.in-Err.ensures.reads in
    record { made = reads.made; counted = reads.counted; may = reads.may; first = reads.first; right = tt; fault = reads.fault }
