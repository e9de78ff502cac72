-- The stream that an element knows.
use Rattle.el_wavenc.specs.declared.stream.Stream.{Stream as Known}
use Rattle.el_wavenc.specs.WavFile.{Stream}

abbrev pub stream_by : Known → Stream
stream_by s = record { caps = s.caps; format = s.info.format; rate = s.info.rate; channels = s.info.channels }
