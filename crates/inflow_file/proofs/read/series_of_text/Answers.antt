use Rattle.inflow_file.proofs.read.series_of_text.Goals as goal

pub returns : goal.returns
returns c =
    let read = c.read_with.ensures in let same = c.in_ok-columns.ensures in
    record {
      spelled = rw same at read.spelled;
      valid = rw same at read.valid;
      faultless = rw same at read.faultless;
      refused = rw same at read.refused;
    }
