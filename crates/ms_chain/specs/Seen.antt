-- What the model of a run sees of files and streams.
use Rattle.io_core.specs.declared.outside.Files as Files
use Rattle.io_core.specs.declared.outside.Sink as Sink
use Rattle.io_core.specs.declared.outside.Source as Source
use Rattle.chain_model.specs.Headline.{Counts, Seen}

abbrev pub counts_seen : {T U V : Type 0} → Files.Ghosts T → Source.Ghosts U → Sink.Ghosts V → T → U → V → Counts
counts_seen F I K files input output = record {
  reads = F.read_faults files;
  writes = F.write_faults files;
  input = I.faults input;
  output = K.faults output;
  file_bytes = F.bytes_read files;
  input_bytes = I.bytes_read input;
}

abbrev pub run_seen : {T U V W : Type 0} → Files.Ghosts T → Source.Ghosts U → Sink.Ghosts V → Sink.Ghosts W → T → U → V → W → Seen
run_seen F I K M files input output messages = record {
  outside = record { files = F.held files; stream = K.held output };
  input = I.left input;
  messages = record { told = M.held messages; faults = M.faults messages };
  counts = counts_seen F I K files input output;
}
